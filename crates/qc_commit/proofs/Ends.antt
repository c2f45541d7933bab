-- How a commit ends.
use Rattle.std.proofs.Common.{◌≡◌, ℕ, ◌+◌, ◌<◌, ◌==◌, ◌⊎◌, ◌&&◌, true, false, List, [], ◌∷◌, ◌++◌, length, map, max}
use Rattle.std.proofs.Common.{Option, Some, None, inl, inr, refl, sym, ap, ◌∙◌, subst}
use Rattle.std.specs.Option.{is_some}
use Rattle.qc_decl.specs.declared.declaration.Declaration.{Declaration}
use Rattle.qc_stamp.specs.declared.stamp.Stamp.{Stamp}
use Rattle.qc_msg.specs.declared.begun.Begun.{Begun}
use Rattle.qc_msg.specs.declared.reply.AbortCause.{AbortCause}
use Rattle.qc_commit.specs.declared.ballot.Ballot.{Ballot}
use Rattle.qc_commit.specs.declared.ballot.Vote.{Vote}
use Rattle.qc_commit.specs.declared.ballot.Vote.TheVariants.{For, Against}
use Rattle.qc_commit.specs.declared.desk.Desk.{Desk}
use Rattle.qc_commit.specs.Vocabulary.{AreFor, IsAborted, IsCommitted, IsRefused, Taken, are_cast, commit_of}
use Rattle.qc_commit.specs.Vocabulary.{commit_turn, course_ballots, course_clock, course_desk, decides, first_against}
use Rattle.qc_commit.specs.Vocabulary.{gives_up, learns, participants, passed, prepare, prepares, stamp_after, vote}
use Rattle.qc_msg.specs.Vocabulary.{sending}
use Rattle.qc_commit.proofs.Going.{Waits, ends-by, ends-clock, for-cast, for-none, refused-why, waits-on}
use Rattle.qc_commit.proofs.Learned.{learned-client, learned-commits}

-- a desk that has learned of this clock decides
committed-from : (old desk : Desk) (b : Begun) (told : ℕ) → desk.clock.value ≡ told → desk.client ≡ old.client
    → desk.commits ≡ old.commits
    → IsCommitted old b (stamp_after (told) old.client) (decides desk b)
committed-from old desk b told clock client commits = record {
  turn = ap (λ (s : Stamp). commit_turn s b) stamp;
  kept = (λ i. commits i ++ commit_of (stamp i) b ∷ []);
  clock = ap (λ (n : ℕ). n + 1) clock;
  ended = refl;
} where
  stamp : stamp_after desk.clock.value desk.client ≡ stamp_after told old.client
  stamp = λ i. record { clock = clock i + 1; client = client i }

aborted-from : (old desk : Desk) (b : Begun) (why : AbortCause) → desk.commits ≡ old.commits
    → IsAborted old b why (gives_up desk b why)
aborted-from old desk b why commits = record { turn = refl; kept = commits; ended = refl }

-- each participant is asked
pub asks-each : (decl : Declaration) (desk : Desk) (b : Begun) (clock : ℕ)
    → (length (participants decl desk.client b) == 0) ≡ false
    → (prepare decl desk b clock).turn ≡ sending (map (prepares b) (participants decl desk.client b))
asks-each decl desk b clock some = rw some refl

-- with no participant a transaction commits at once
pub commits-at-once : (decl : Declaration) (desk : Desk) (b : Begun) (clock : ℕ)
    → (length (participants decl desk.client b) == 0) ≡ true
    → IsCommitted desk b (stamp_after ((passed desk clock).clock.value) desk.client) (prepare decl desk b clock)
commits-at-once decl desk b clock none =
    rw none (committed-from desk (passed desk clock) b (passed desk clock).clock.value refl refl refl)

pub commits-on : (decl : Declaration) (desk : Desk) (b : Begun) (clock first : ℕ) (takes : List Taken) (t : Taken)
    → 0 < decl.sites → (length (participants decl desk.client b) == 0) ≡ false
    → are_cast (course_ballots decl desk b first takes) ≡ false
    → AreFor (course_ballots decl desk b first (takes ++ t ∷ []))
    → IsCommitted desk b (stamp_after (course_clock decl desk b clock first (takes ++ t ∷ [])) desk.client)
    (vote (course_desk decl desk b clock first takes) t.number t.answer)
commits-on decl desk b clock first takes t some asks uncast agree =
    subst (λ m. IsCommitted desk b (stamp_after (course_clock decl desk b clock first (takes ++ t ∷ [])) desk.client) m)
    (sym (ends-by decl desk b clock first takes t None some asks uncast all
    (for-none (course_ballots decl desk b first (takes ++ t ∷ [])) agree)))
    (committed-from desk (learns now t.answer) b (course_clock decl desk b clock first (takes ++ t ∷ []))
    (ends-clock decl desk b clock first takes t some asks uncast all)
    (learned-client now t.answer ∙ w.client) (learned-commits now t.answer ∙ w.commits)) where
      now : Desk
      now = course_desk decl desk b clock first takes

      all : are_cast (course_ballots decl desk b first (takes ++ t ∷ [])) ≡ true
      all = for-cast (course_ballots decl desk b first (takes ++ t ∷ [])) agree

      w : Waits desk b (max desk.clock.value clock) first (participants decl desk.client b) takes now
      w = waits-on decl desk b clock first takes some asks uncast

pub aborts-on : (decl : Declaration) (desk : Desk) (b : Begun) (clock first : ℕ) (takes : List Taken) (t : Taken)
    (why : AbortCause) → 0 < decl.sites → (length (participants decl desk.client b) == 0) ≡ false
    → are_cast (course_ballots decl desk b first takes) ≡ false
    → are_cast (course_ballots decl desk b first (takes ++ t ∷ [])) ≡ true
    → IsRefused (course_ballots decl desk b first (takes ++ t ∷ [])) why
    → IsAborted desk b why (vote (course_desk decl desk b clock first takes) t.number t.answer)
aborts-on decl desk b clock first takes t why some asks uncast all r =
    subst (λ m. IsAborted desk b why m)
    (sym (ends-by decl desk b clock first takes t (Some why) some asks uncast all
    (ap first_against r.are ∙ refused-why r.before r.site why r.after r.agree)))
    (aborted-from desk (learns now t.answer) b why (learned-commits now t.answer ∙ w.commits)) where
      now : Desk
      now = course_desk decl desk b clock first takes

      w : Waits desk b (max desk.clock.value clock) first (participants decl desk.client b) takes now
      w = waits-on decl desk b clock first takes some asks uncast

-- all votes are for, or a first one is against

refused-next : (b : Ballot) (bs : List Ballot) (why : AbortCause) → b.vote ≡ Some For → IsRefused bs why
    → IsRefused (b ∷ bs) why
refused-next b bs why is r = record {
  before = b ∷ r.before;
  site = r.site;
  after = r.after;
  are = ap (λ (v : List Ballot). b ∷ v) r.are;
  agree = (is, r.agree);
}

refused-first : (site : ℕ) (bs : List Ballot) (why : AbortCause)
    → IsRefused (record { site = site; vote = Some (Against why) } ∷ bs) why
refused-first site bs why = record { before = []; site = site; after = bs; are = refl; agree = tt }

pub votes-decide : (ballots : List Ballot) → are_cast ballots ≡ true
    → AreFor ballots ⊎ ((why : AbortCause) × IsRefused ballots why)
votes-decide [] all = inl tt
votes-decide (b ∷ bs) all = by b.vote refl all (votes-decide bs) where
  by : (o : Option Vote) → b.vote ≡ o → (is_some o && are_cast bs) ≡ true
      → (are_cast bs ≡ true → AreFor bs ⊎ ((why : AbortCause) × IsRefused bs why))
      → AreFor (b ∷ bs) ⊎ ((why : AbortCause) × IsRefused (b ∷ bs) why)
  by None is never rest = absurd (let no : ⊥ = cc in no)
  by (Some For) is all rest = on (rest all) where
    on : AreFor bs ⊎ ((why : AbortCause) × IsRefused bs why)
        → AreFor (b ∷ bs) ⊎ ((why : AbortCause) × IsRefused (b ∷ bs) why)
    on (inl agree) = inl (is, agree)
    on (inr refused) = inr (refused.0, refused-next b bs refused.0 is refused.1)
  by (Some (Against why)) is all rest =
      inr (
        why,
        subst (λ v. IsRefused (v ∷ bs) why) (λ i. record { site = b.site; vote = sym is i })
            (refused-first b.site bs why),
      )
