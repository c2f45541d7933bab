-- A reply that is due keeps what ties a client's account to its dealings.
use Rattle.std.proofs.Common.{◌≡◌, inl, inr, ℕ, ◌+◌, Bool, true, false, cond, List, [], ◌∷◌, ◌++◌, Option, Some, None}
use Rattle.std.proofs.Common.{option_map, refl, sym, ap, ◌∙◌, subst}
use Rattle.qc_decl.specs.declared.declaration.Declaration.{Declaration}
use Rattle.qc_entry.specs.declared.record.Commit.{Commit as CommitRecord}
use Rattle.qc_msg.specs.declared.record.Record.{Record}
use Rattle.qc_msg.specs.declared.record.Record.TheVariants.{Commit}
use Rattle.qc_msg.specs.declared.reply.Reply.{Reply}
use Rattle.qc_msg.specs.declared.reply.Reply.TheVariants as replies
use Rattle.qc_msg.specs.declared.step.Command.{Command}
use Rattle.qc_msg.specs.declared.step.Command.TheVariants as commands
use Rattle.qc_msg.specs.Vocabulary.{Deed, Tells}
use Rattle.qc_stamp.specs.declared.stamp.TxId.{TxId}
use Rattle.qc_promise.specs.Vocabulary.{Account, Current, Dealing, IsReplyDue, Journal, Place, account_told, answer_of}
use Rattle.qc_promise.specs.Vocabulary.{commit_of, deal_told, dealt, due, found_absent, next_commit, next_stamp}
use Rattle.qc_promise.specs.Vocabulary.{operation, pending_next, resp_of, responded, saying_of, with_absent}
use Rattle.qc_promise.specs.Vocabulary.{with_response}
use Rattle.qc_promise.specs.Rows.{pending_with}
use Rattle.laws_reach.specs.Vocabulary.{Finds, IsNoCommit, Responds, Says}
use Rattle.laws_reach.proofs.Gists.{Gist, Going, finished, gist, going, replied}
use Rattle.laws_reach.proofs.Bases.{Base, Both, IsPast, Settled, answered, begins, both_as, ends, none_some, adds}
use Rattle.laws_reach.proofs.DealingsTurning.{IsSaid, is_off}
use Rattle.laws_reach.proofs.CarriedRecords.{commit_or, Known, Ongoing, recorded, said}
use Rattle.laws_reach.proofs.Owners.{told_owner}
use Rattle.laws_reach.proofs.ToldCases.{account_by, deal_by, stays_same, told_cases}
use Rattle.qc_list.proofs.Options.{some_same}

-- a command that isn't Commit

pub some_current : (o : Option Current) (e : Going) → option_map going o ≡ Some e → (t : Current) × (o ≡ Some t)
some_current None e is = absurd (none_some e None refl is)
some_current (Some t) e is = (t, refl)

no_commit : (d : Account) (command : Command) → d.command ≡ Some command → IsNoCommit d command → (o : Going)
    → (gist d).begun ≡ Some o → (gist d).command ≡ Some commands.Commit → ⊥
no_commit d command is not o begun commits =
    let t : (t : Current) × (d.current ≡ Some t) = some_current d.current o begun in
    not t.0 t.1 (some_same command commands.Commit (sym is ∙ commits))

do_not : (d : Account) (object inv : ℕ) → d.command ≡ Some (commands.Do object inv)
    → (gist d).command ≡ Some commands.Commit → ⊥
do_not d object inv is commits =
    let same : Some (commands.Do object inv) ≡ Some commands.Commit = sym is ∙ commits in let never : ⊥ = cc in never

-- an operation in the account

pub absent_gist : (d : Account) (t : Current) (object inv : ℕ) → d.command ≡ Some (commands.Do object inv)
    → d.current ≡ Some t
    → gist (found_absent d d.command) ≡ record
    (gist d) {
      begun = Some (record {
        tx = t.tx;
        ops = t.ops ++ record { object = object; inv = inv; resp = None } ∷ [];
      });
    }
absent_gist d t object inv command is =
    ap (λ (m : Option Command). gist (found_absent d m)) command
    ∙ ap (λ (o : Option Current). record (gist d)
    { begun = option_map going (option_map (λ (t : Current). with_absent t object inv) o) }) is

pub response_gist : (decl : Declaration) (d : Account) (t : Current) (object inv event : ℕ)
    → d.command ≡ Some (commands.Do object inv) → d.current ≡ Some t → answer_of decl t object inv ≡ Some event
    → gist (responded decl d d.command) ≡ record
    (gist d) {
      begun = Some (record {
        tx = t.tx;
        ops = t.ops ++ record { object = object; inv = inv; resp = Some (resp_of decl object event) } ∷ [];
      });
    }
response_gist decl d t object inv event command is answer =
    ap (λ (m : Option Command). gist (responded decl d m)) command
    ∙ ap (λ (o : Option Current). record (gist d) {
      begun = option_map going (option_map (λ (t : Current). with_response decl t object inv
          (answer_of decl t object inv)) o);
    }) is
    ∙ ap (λ (o : Option ℕ). record (gist d) { begun = Some (going (with_response decl t object inv o)) }) answer

-- no reply changes the client's life

module _ (decl : Declaration) (c : CommitRecord) (p q : Place) (d : Account) (x : Dealing) (j : Journal)
    (after : List Deed) (same_off : is_off q ≡ is_off p) where
  -- no record is pending
  pub still : (reply : Reply) → pending_next after ≡ None → Known decl c q j after
      → Known decl c p j (Tells reply ∷ after)
  still reply none (inl at) = inl at
  still reply none (inr (inl at)) = inr (inl at)
  still reply none (inr (inr at)) = absurd (none_some (Commit c) (pending_next after) none at.1)

  module _ (reply : Reply) (s : Both c.tx c.ops (is_off p) (gist d) x (Known decl c p j (Tells reply ∷ after))) where
    silent : (k : Gist) → k ≡ gist d → pending_next after ≡ None
        → ((o : Going) → (gist d).begun ≡ Some o → (gist d).command ≡ Some commands.Commit → ⊥)
        → Both c.tx c.ops (is_off q) (replied k) x (Known decl c q j after)
    silent k is none not =
        both_as c.tx c.ops (is_off p) (is_off q) (replied (gist d)) (replied k) x
        (Known decl c p j (Tells reply ∷ after)) (Known decl c q j after) same_off (ap replied is)
        (still reply none)
        (answered c.tx c.ops (is_off p) (gist d) x (Known decl c p j (Tells reply ∷ after)) not s)

    ended : (es : List Reply) → pending_next after ≡ None
        → Both c.tx c.ops (is_off q) (finished (gist d)) (record x { begun = None; ends = es }) (Known decl c q j after)
    ended es none =
        both_as c.tx c.ops (is_off p) (is_off q) (finished (gist d)) (finished (gist d))
        (record x { begun = None; ends = es }) (Known decl c p j (Tells reply ∷ after))
        (Known decl c q j after) same_off refl (still reply none)
        (ends c.tx c.ops (is_off p) (is_off p) (gist d) x es (Known decl c p j (Tells reply ∷ after)) (inl refl) s)

    added : (k : Gist) (t : Current) (object inv : ℕ) (resp : Option ℕ) → d.command ≡ Some (commands.Do object inv)
        → d.current ≡ Some t
        → k ≡ record (gist d) {
          begun = Some (record
              { tx = t.tx; ops = t.ops ++ record { object = object; inv = inv; resp = resp } ∷ [] });
        }
        → pending_next after ≡ None
        → Both c.tx c.ops (is_off q) (replied k) (dealt c.tx x resp) (Known decl c q j after)
    added k t object inv resp command current is none =
        both_as c.tx c.ops (is_off p) (is_off q)
        (record (gist d) {
          command = None;
          written = None;
          begun = Some (record { tx = t.tx; ops = t.ops ++ record { object = object; inv = inv; resp = resp } ∷ [] });
        }) (replied k) (dealt c.tx x resp) (Known decl c p j (Tells reply ∷ after))
        (Known decl c q j after) same_off (ap replied is) (still reply none)
        (adds c.tx c.ops (is_off p) (gist d) x (Known decl c p j (Tells reply ∷ after)) (going t) resp
        (record { object = object; inv = inv; resp = resp } ∷ []) (ap (option_map going) current) operation_is
        (do_not d object inv command) s)
      where
        operation_is : operation x.asked resp ≡ record { object = object; inv = inv; resp = resp } ∷ []
        operation_is = ap (λ (o : Option Command). operation o resp) (s.base.asked (commands.Do object inv) command)

  -- the record that was pending is known from then on
  unknown : pending_next after ≡ next_commit d
      → Both c.tx c.ops (is_off p) (gist d) x (Known decl c p j (Tells replies.Unknown ∷ after))
      → Both c.tx c.ops (is_off q) (finished (gist d)) (deal_told c.tx x replies.Unknown) (Known decl c q j after)
  unknown pending s = record { base = over.base; known = known }
    where
      over : Both c.tx c.ops (is_off q) (finished (gist d)) (deal_told c.tx x replies.Unknown)
          (Known decl c p j (Tells replies.Unknown ∷ after))
      over = subst (λ (b : Bool). Both c.tx c.ops b (finished (gist d)) (deal_told c.tx x replies.Unknown)
          (Known decl c p j (Tells replies.Unknown ∷ after))) (sym same_off)
          (ends c.tx c.ops (is_off p) (is_off p) (gist d) x (deal_told c.tx x replies.Unknown).ends
          (Known decl c p j (Tells replies.Unknown ∷ after)) (inl refl) s)

      written : (o : Option CommitRecord) → option_map Commit o ≡ Some (Commit c) → o ≡ Some c
      written None is = absurd (none_some (Commit c) None refl is)
      written (Some e) is = ap (λ (r : Record). Some (commit_or decl c r)) (some_same (Commit e) (Commit c) is)

      base : Base c.tx c.ops (is_off q) (gist d) x
      base = subst (λ (b : Bool). Base c.tx c.ops b (gist d) x) (sym same_off) s.base

      known : Known decl c q j after → Settled c.tx c.ops (is_off q) (finished (gist d))
          (deal_told c.tx x replies.Unknown)
      known (inl at) = over.known (inl at)
      known (inr (inl at)) = over.known (inr (inl at))
      known (inr (inr at)) =
          let its : (c.ops ≡ x.ops) × IsPast c.tx c.ops (is_off q) (gist d) =
          recorded decl c (is_off q) d x (next_stamp d) d.current refl base
          (written (commit_of d (next_stamp d)) (sym pending ∙ at.1)) in
          record { same = its.0; past = its.1; quiet = λ o is named. absurd (none_some o None refl is) }

  began : (tx : TxId) → is_off p ≡ false → pending_next after ≡ None
      → tx ≡ record { client = d.client; life = d.life; number = d.count + 1 }
      → Both c.tx c.ops (is_off p) (gist d) x (Known decl c p j (Tells (replies.Began tx) ∷ after))
      → Both c.tx c.ops (is_off q) (gist (account_told decl d (replies.Began tx))) (deal_told c.tx x (replies.Began tx))
      (Known decl c q j after)
  began tx up none is s =
      both_as c.tx c.ops false (is_off q) (gist (account_told decl d (replies.Began tx)))
      (gist (account_told decl d (replies.Began tx))) (deal_told c.tx x (replies.Began tx))
      (Known decl c p j (Tells (replies.Began tx) ∷ after)) (Known decl c q j after) (same_off ∙ up) refl
      (still (replies.Began tx) none)
      (begins c.tx c.ops (gist d) x (Known decl c p j (Tells (replies.Began tx) ∷ after)) tx
      (ap (λ (t : TxId). t.client) is) (ap (λ (t : TxId). t.life) is) (ap (λ (t : TxId). t.number) is)
      (subst (λ (b : Bool). Both c.tx c.ops b (gist d) x (Known decl c p j (Tells (replies.Began tx) ∷ after))) up s))

  pub neither_up : (off : Bool) → IsSaid off (saying_of replies.NoTransaction) → off ≡ false
  neither_up true never = absurd never
  neither_up false up = refl

  down_off : (off : Bool) → IsSaid off (saying_of replies.Down) → off ≡ true
  down_off true down = refl
  down_off false never = absurd never

  pub tells_so : (reply : Reply) → IsSaid (is_off p) (saying_of reply) → pending_next after ≡ pending_with d reply
      → (command : Command) × ((d.command ≡ Some command) × Says decl d command reply)
      → Both c.tx c.ops (is_off p) (gist d) x (Known decl c p j (Tells reply ∷ after))
      → Both c.tx c.ops (is_off q) (gist (account_told decl d reply)) (deal_told c.tx x reply)
      (Known decl c q j after)
  tells_so reply place pending run s =
      told_cases decl d
      (λ r began stamp short resp ends refuses doubt. IsSaid (is_off p) (saying_of r)
      → pending_next after ≡ cond doubt (next_commit d) None
      → (command : Command) × ((d.command ≡ Some command) × Says decl d command r)
      → Both c.tx c.ops (is_off p) (gist d) x (Known decl c p j (Tells r ∷ after))
      → Both c.tx c.ops (is_off q) (replied (gist (account_by decl d began stamp short resp ends refuses)))
      (deal_by c.tx x r began resp ends) (Known decl c q j after))
      (λ place none run s. silent replies.Down s (gist d) refl none
      (λ o is commits. none_some o (gist d).begun (s.base.down (down_off (is_off p) place)) is))
      (λ r short refuses says unbegun uncommitted goes place none run s.
      silent r s (gist (account_by decl d None None short None false refuses)) (stays_same decl d short refuses) none
      (no_commit d run.0 run.1.0 (says run.0 run.1.1)))
      (λ tx place none run s. began tx (neither_up (is_off p) place) none run.1.1 s)
      (λ place none run s. (let f : Finds d run.0 = run.1.1 in
      let command : d.command ≡ Some (commands.Do f.object f.inv) = run.1.0
      ∙ ap (λ (e : Command). Some e) f.command_is in
      added replies.Absent s (gist (found_absent d d.command)) f.t f.object f.inv None command f.current_is
      (absent_gist d f.t f.object f.inv command f.current_is) none))
      (λ resp place none run s. (let f : Responds decl d run.0 resp = run.1.1 in
      let command : d.command ≡ Some (commands.Do f.object f.inv) = run.1.0
      ∙ ap (λ (e : Command). Some e) f.command_is in
      added (replies.Response resp) s (gist (responded decl d d.command)) f.t f.object f.inv
      (Some resp) command f.current_is
      (response_gist decl d f.t f.object f.inv f.event command f.current_is f.answer_is
      ∙ ap (λ (r : ℕ). record (gist d) {
        begun = Some (record {
          tx = f.t.tx;
          ops = f.t.ops ++ record { object = f.object; inv = f.inv; resp = Some r } ∷ [];
        });
      }) (sym f.resp_is)) none))
      (λ r unbegun uncommitted over place none run s. ended r s (deal_by c.tx x r None None true).ends none)
      (λ place pending run s. unknown pending s)
      (λ stamp place none run s. ended (replies.Committed stamp) s
      (deal_told c.tx x (replies.Committed stamp)).ends none) reply place pending run s

  pub tells_on : (reply : Reply) (u : Bool) → IsSaid (is_off p) (saying_of reply)
      → IsReplyDue d (due decl d u) after reply → Ongoing decl c p d x j (Tells reply ∷ after)
      → Ongoing decl c q (account_told decl d reply) (deal_told c.tx x reply) j after
  tells_on reply u place its s = record {
    both = tells_so reply place its.2 (said decl d u reply its.0) s.both;
    life = (told_owner decl d reply).1 ∙ s.life;
  }
