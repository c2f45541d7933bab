-- A reply that is due keeps what holds of a transaction's end, and ends it as its record says.
use Rattle.std.proofs.Common.{◌≡◌, ◌⊎◌, inl, inr, ℕ, ◌+◌, Bool, true, false, cond, List, [], ◌∷◌, ◌++◌, Option, Some}
use Rattle.std.proofs.Common.{None, option_map, option_and_then, refl, sym, ap, ◌∙◌, subst}
use Rattle.qc_decl.specs.declared.declaration.Declaration.{Declaration}
use Rattle.qc_entry.specs.declared.line.Op.{Op}
use Rattle.qc_entry.specs.declared.record.Commit.{Commit as CommitRecord}
use Rattle.qc_msg.specs.declared.record.Record.{Record}
use Rattle.qc_msg.specs.declared.record.Record.TheVariants.{Commit}
use Rattle.qc_msg.specs.declared.reply.Reply.{Reply}
use Rattle.qc_msg.specs.declared.reply.Reply.TheVariants as replies
use Rattle.qc_msg.specs.declared.step.Command.{Command}
use Rattle.qc_msg.specs.declared.step.Command.TheVariants as commands
use Rattle.qc_msg.specs.Vocabulary.{Deed, Tells, committed_in}
use Rattle.qc_stamp.proofs.Orders.{same_tx_itself}
use Rattle.qc_stamp.specs.declared.stamp.Stamp.{Stamp}
use Rattle.qc_stamp.specs.declared.stamp.TxId.{TxId}
use Rattle.qc_promise.specs.Vocabulary.{Account, Current, Dealing, IsReplyDue, Journal, Place, account_told, commit_of}
use Rattle.qc_promise.specs.Vocabulary.{deal_told, dealt, due, ended, found_absent, is_begun, next_commit, next_stamp}
use Rattle.qc_promise.specs.Vocabulary.{pending_next, record_with, responded, saying_of}
use Rattle.qc_promise.specs.Rows.{pending_with}
use Rattle.laws_reach.specs.Vocabulary.{Finds, HasRecord, IsToldOf, Responds, Says, TellsNext}
use Rattle.laws_reach.proofs.EndTies.{AwaitsReply, IsOver, EndTie, IsGoing, closed_begin, finishes, goes_on, going_one}
use Rattle.laws_reach.proofs.EndTies.{told_of}
use Rattle.laws_reach.proofs.Gists.{Gist, Going, finished, gist, going, replied}
use Rattle.laws_reach.proofs.Bases.{Base, none_some}
use Rattle.laws_reach.proofs.DealingsTurning.{IsSaid, is_off}
use Rattle.laws_reach.proofs.CarriedRecords.{Known, Ongoing, commit_or, said}
use Rattle.laws_reach.proofs.DealingsTelling.{absent_gist, neither_up, response_gist, some_current, still}
use Rattle.laws_reach.proofs.ToldCases.{account_by, deal_by, stays_same, told_cases}
use Rattle.qc_list.proofs.Options.{some_same}

-- the record of the account: its stamp, and its transaction

same_stamp : (stamp : Stamp) (c : CommitRecord) (o : Option Current)
    → option_map (λ (t : Current). record { stamp = stamp; tx = t.tx; ops = t.ops }) o ≡ Some c → stamp ≡ c.stamp
same_stamp stamp c None row = absurd (none_some c None refl row)
same_stamp stamp c (Some t) row = ap (λ (e : CommitRecord). e.stamp)
    (some_same (record { stamp = stamp; tx = t.tx; ops = t.ops }) c row)

same_begun : (stamp : Stamp) (c : CommitRecord) (o : Option Current)
    → option_map (λ (t : Current). record { stamp = stamp; tx = t.tx; ops = t.ops }) o ≡ Some c
    → option_map (λ (e : Going). e.tx) (option_map going o) ≡ Some c.tx
same_begun stamp c None row = absurd (none_some c None refl row)
same_begun stamp c (Some t) row = ap (λ (e : CommitRecord). Some e.tx)
    (some_same (record { stamp = stamp; tx = t.tx; ops = t.ops }) c row)

module _ (decl : Declaration) (c : CommitRecord) where
  abbrev pub Ending : Place → Account → Dealing → Journal → List Deed → Type 0
  Ending p d x j after = EndTie c (is_off p) (gist d) x j.records (Known decl c p j after) (TellsNext after)

  -- the record of the account is the begun transaction's
  pub recorded_begun : (off : Bool) (d : Account) (x : Dealing) (stamp : Stamp) → Base c.tx c.ops off (gist d) x
      → commit_of d stamp ≡ Some c → x.begun ≡ Some c.tx
  recorded_begun off d x stamp base row = base.begun ∙ same_begun stamp c d.current row

  is_its : (x : Dealing) → x.begun ≡ Some c.tx → is_begun c.tx x.begun ≡ true
  is_its x is = ap (is_begun c.tx) is ∙ same_tx_itself c.tx

  module _ (p q : Place) (d : Account) (x : Dealing) (j : Journal) (after : List Deed)
      (same_off : is_off q ≡ is_off p) where
    abbrev Here : Reply → Type 0
    Here reply = Known decl c p j (Tells reply ∷ after)

    abbrev There : Type 0
    There = Known decl c q j after

    abbrev Before : Reply → Type 0
    Before reply = EndTie c (is_off p) (gist d) x j.records (Here reply) (Unit {0})

    -- the place after it, and no record that waits for its reply
    placed : (k : Gist) (y : Dealing) → EndTie c (is_off p) k y j.records There (TellsNext after)
        → EndTie c (is_off q) k y j.records There (TellsNext after)
    placed k y s = subst (λ (b : Bool). EndTie c b k y j.records There (TellsNext after)) (sym same_off) s

    unawaited : d.written ≡ None → AwaitsReply c (gist d) x (Unit {0}) → ⊥
    unawaited none w = none_some c d.written none w.written

    module _ (reply : Reply) (s : Before reply) (none : pending_next after ≡ None) (unwritten : d.written ≡ None) where
      -- one that ends nothing
      stays : (k : Gist) (y : Dealing) → y.ends ≡ x.ends
          → (IsOver c (is_off p) (gist d) → IsOver c (is_off p) (replied k))
          → EndTie c (is_off q) (replied k) y j.records There (TellsNext after)
      stays k y same closes =
          placed (replied k) y
          (goes_on c (is_off p) (is_off p) (gist d) (replied k) x y j.records j.records (Here reply) There (Unit {0})
          (TellsNext after) same (unawaited unwritten)
          (λ l. inl (still decl c p q d x j after same_off reply none l)) closes
          (λ e is. absurd (none_some e None refl is)) (λ e among. among) s)

      silent : (k : Gist) → k ≡ gist d → EndTie c (is_off q) (replied k) x j.records There (TellsNext after)
      silent k is = stays k x refl (λ z. subst (λ (g : Gist). IsOver c (is_off p) (replied g)) (sym is)
          (record { past = z.past; gone = z.gone }))

      added : (k : Gist) (t : Current) (ops : List Op) (resp : Option ℕ) → d.current ≡ Some t
          → k ≡ record (gist d) { begun = Some (record { tx = t.tx; ops = ops }) }
          → EndTie c (is_off q) (replied k) (dealt c.tx x resp) j.records There (TellsNext after)
      added k t ops resp current is = stays k (dealt c.tx x resp) refl
          (λ z. subst (λ (g : Gist). IsOver c (is_off p) (replied g)) (sym is)
          (record {
            past = z.past;
            gone = λ o some named. z.gone (going t) (ap (option_map going) current)
                (ap (λ (e : Going). e.tx) (some_same (record { tx = t.tx; ops = ops }) o some) ∙ named);
          }))

      -- one that gives the transaction up
      gives_up : Base c.tx c.ops (is_off p) (gist d) x → ((stamp : Stamp) → replies.Committed stamp ≡ reply → ⊥)
          → EndTie c (is_off q) (finished (gist d)) (ended c.tx x reply) j.records There (TellsNext after)
      gives_up base not =
          placed (finished (gist d)) (ended c.tx x reply)
          (finishes c (is_off p) (gist d) x j.records (Here reply) There (Unit {0}) (TellsNext after) reply base s
          (λ l. inl (told_of c (gist d) x (Unit {0}) (unawaited unwritten)
          (s.known (still decl c p q d x j after same_off reply none l)))) (λ stamp is its. absurd (not stamp is)))

    began : (tx : TxId) → is_off p ≡ false → pending_next after ≡ None → d.written ≡ None
        → tx ≡ record { client = d.client; life = d.life; number = d.count + 1 } → Before (replies.Began tx)
        → EndTie c (is_off q) (gist (account_told decl d (replies.Began tx)))
        (deal_told c.tx x (replies.Began tx)) j.records There (TellsNext after)
    began tx up none unwritten is s =
        stays (replies.Began tx) s none unwritten (gist (account_told decl d (replies.Began tx)))
        (deal_told c.tx x (replies.Began tx)) refl
        (λ z. subst (λ (b : Bool). IsOver c b (gist (account_told decl d (replies.Began tx)))) (sym up)
        (closed_begin c (gist d) tx (ap (λ (t : TxId). t.life) is) (ap (λ (t : TxId). t.number) is)
        (subst (λ (b : Bool). IsOver c b (gist d)) up z)))

    -- Committed, as its record is written

    same_reply : (stamp other : Stamp) → replies.Committed stamp ≡ replies.Committed other → stamp ≡ other
    same_reply stamp other is = let same : stamp ≡ other = cc in same

    commits : (stamp : Stamp) → pending_next after ≡ None → d.written ≡ commit_of d stamp
        → Base c.tx c.ops (is_off p) (gist d) x → Before (replies.Committed stamp)
        → EndTie c (is_off q) (finished (gist d)) (deal_told c.tx x (replies.Committed stamp)) j.records There
        (TellsNext after)
    commits stamp none wrote base s =
        placed (finished (gist d)) (ended c.tx x (replies.Committed stamp))
        (finishes c (is_off p) (gist d) x j.records (Here (replies.Committed stamp)) There (Unit {0}) (TellsNext after)
        (replies.Committed stamp) base s
        (λ l. tells (s.known (still decl c p q d x j after same_off (replies.Committed stamp) none l)))
        (λ other same its. has other same (going_one c (is_off p) (gist d) x base its)))
      where
        tells : IsToldOf c x.ends ⊎ AwaitsReply c (gist d) x (Unit {0})
            → IsToldOf c x.ends ⊎ ((is_begun c.tx x.begun ≡ true) × IsToldOf c (replies.Committed stamp ∷ []))
        tells (inl told) = inl told
        tells (inr w) = inr (
          is_its x w.begun,
          inl
              (inl (ap (λ (v : Stamp). replies.Committed v)
              (sym (same_stamp stamp c d.current (sym wrote ∙ w.written))))),
        )

        has : (other : Stamp) → replies.Committed other ≡ replies.Committed stamp → IsGoing (gist d) c.tx
            → HasRecord j.records c.tx other
        has other same o = by (some_current d.current o.going o.is)
          where
            by : (t : Current) × (d.current ≡ Some t) → HasRecord j.records c.tx other
            by t = record {
              commit = record { stamp = stamp; tx = t.0.tx; ops = t.0.ops };
              listed = s.written (record { stamp = stamp; tx = t.0.tx; ops = t.0.ops })
                  (wrote ∙ ap (option_map (λ (v : Current). record { stamp = stamp; tx = v.tx; ops = v.ops })) t.1);
              named = ap (λ (e : Going). e.tx) (some_same (going t.0) o.going (sym (ap (option_map going) t.1) ∙ o.is))
                  ∙ o.named;
              stamped = sym (same_reply other stamp same);
            }

    -- Unknown, where its record may be pending

    unknown : pending_next after ≡ next_commit d → d.written ≡ None → Base c.tx c.ops (is_off p) (gist d) x
        → Before replies.Unknown
        → EndTie c (is_off q) (finished (gist d)) (deal_told c.tx x replies.Unknown) j.records There (TellsNext after)
    unknown pending unwritten base s =
        placed (finished (gist d)) (ended c.tx x replies.Unknown)
        (finishes c (is_off p) (gist d) x j.records (Here replies.Unknown) There (Unit {0})
        (TellsNext after) replies.Unknown base s tells (λ stamp is its. absurd (let never : ⊥ = cc in never)))
      where
        written : (o : Option CommitRecord) → option_map Commit o ≡ Some (Commit c) → o ≡ Some c
        written None is = absurd (none_some (Commit c) None refl is)
        written (Some e) is = ap (λ (r : Record). Some (commit_or decl c r)) (some_same (Commit e) (Commit c) is)

        old : IsToldOf c x.ends ⊎ AwaitsReply c (gist d) x (Unit {0})
            → IsToldOf c x.ends ⊎ ((is_begun c.tx x.begun ≡ true) × IsToldOf c (replies.Unknown ∷ []))
        old known = inl (told_of c (gist d) x (Unit {0}) (unawaited unwritten) known)

        tells : There → IsToldOf c x.ends ⊎ ((is_begun c.tx x.begun ≡ true) × IsToldOf c (replies.Unknown ∷ []))
        tells (inl at) = old (s.known (inl at))
        tells (inr (inl at)) = old (s.known (inr (inl at)))
        tells (inr (inr at)) = inr (
          is_its x (recorded_begun (is_off p) d x (next_stamp d) base
              (written (commit_of d (next_stamp d)) (sym pending ∙ at.1))),
          inr (inl refl),
        )

    gone : (r : Reply) → committed_in r ≡ None → (stamp : Stamp) → replies.Committed stamp ≡ r → ⊥
    gone r none stamp is = let same : Some stamp ≡ None = ap committed_in is ∙ none in let never : ⊥ = cc in never

    ends_so : (reply : Reply) → IsSaid (is_off p) (saying_of reply) → d.written ≡ record_with d reply
        → pending_next after ≡ pending_with d reply
        → (command : Command) × ((d.command ≡ Some command) × Says decl d command reply)
        → Base c.tx c.ops (is_off p) (gist d) x → Before reply
        → EndTie c (is_off q) (gist (account_told decl d reply)) (deal_told c.tx x reply) j.records There
        (TellsNext after)
    ends_so reply place wrote pending run base s =
        told_cases decl d
        (λ r begins stamp short resp ends refuses doubt. IsSaid (is_off p) (saying_of r)
        → d.written ≡ option_and_then (λ (at : Stamp). commit_of d at) stamp
        → pending_next after ≡ cond doubt (next_commit d) None
        → (command : Command) × ((d.command ≡ Some command) × Says decl d command r)
        → Base c.tx c.ops (is_off p) (gist d) x → Before r
        → EndTie c (is_off q) (replied (gist (account_by decl d begins stamp short resp ends refuses)))
        (deal_by c.tx x r begins resp ends) j.records There (TellsNext after))
        (λ place wrote none run base s. silent replies.Down s none wrote (gist d) refl)
        (λ r short refuses says unbegun uncommitted goes place wrote none run base s.
        silent r s none wrote (gist (account_by decl d None None short None false refuses))
        (stays_same decl d short refuses))
        (λ tx place wrote none run base s.
        began tx (neither_up decl c p q d x j after same_off (is_off p) place) none wrote run.1.1 s)
        (λ place wrote none run base s. (let f : Finds d run.0 = run.1.1 in
        let command : d.command ≡ Some (commands.Do f.object f.inv) = run.1.0
        ∙ ap (λ (e : Command). Some e) f.command_is in
        added replies.Absent s none wrote (gist (found_absent d d.command)) f.t
        (f.t.ops ++ record { object = f.object; inv = f.inv; resp = None } ∷ []) None f.current_is
        (absent_gist d f.t f.object f.inv command f.current_is)))
        (λ resp place wrote none run base s. (let f : Responds decl d run.0 resp = run.1.1 in
        let command : d.command ≡ Some (commands.Do f.object f.inv) = run.1.0
        ∙ ap (λ (e : Command). Some e) f.command_is in
        added (replies.Response resp) s none wrote (gist (responded decl d d.command)) f.t _ (Some resp) f.current_is
        (response_gist decl d f.t f.object f.inv f.event command f.current_is f.answer_is)))
        (λ r unbegun uncommitted over place wrote none run base s. gives_up r s none wrote base (gone r uncommitted))
        (λ place wrote pending run base s. unknown pending wrote base s)
        (λ stamp place wrote none run base s. commits stamp none wrote base s) reply place wrote pending run base s

    pub ends_on : (reply : Reply) (u : Bool) → IsSaid (is_off p) (saying_of reply)
        → IsReplyDue d (due decl d u) after reply → Ongoing decl c p d x j (Tells reply ∷ after)
        → Ending p d x j (Tells reply ∷ after) → Ending q (account_told decl d reply) (deal_told c.tx x reply) j after
    ends_on reply u place its known s = ends_so reply place its.1 its.2 (said decl d u reply its.0) known.both.base s
