-- A reply to a `do` records its operation, and leaves the views, through falls.
use Rattle.std.proofs.Common.{◌≡◌, ◌-◌, if◌then◌else◌, ℕ, Bool, true, false, cond, List, [], ◌∷◌, ◌++◌, fold, Option}
use Rattle.std.proofs.Common.{Some, None, is_some, option_map, option_to_list, refl, sym, ap, ◌∙◌, subst, eq-eqb}
use Rattle.std.specs.Prelude.{option_and_then}
use Rattle.std.proofs.lemmas.List.Sums.{fold-append}
use Rattle.qc_core.specs.Vocabulary.{IsLawfulWithFalls}
use Rattle.qc_decl.specs.Vocabulary.{IsAccepted, is_client}
use Rattle.qc_decl.specs.declared.declaration.Declaration.{Declaration}
use Rattle.laws_votes.proofs.Stamps.{client_due, due_behind}
use Rattle.qc_msg.proofs.DeedsGrow.{deeds-append}
use Rattle.qc_msg.specs.Vocabulary.{Deed, Entry, Tells, deeds, envelope_of, mail, marked}
use Rattle.qc_msg.specs.declared.record.Record.{Record}
use Rattle.qc_msg.specs.declared.reply.Reply.{Reply}
use Rattle.qc_msg.specs.declared.reply.Reply.TheVariants as replies
use Rattle.qc_msg.specs.declared.step.Command.{Command}
use Rattle.qc_msg.specs.declared.step.Step.TheVariants as steps
use Rattle.laws_guarantees.proofs.DueResponses.{IsAnswered, due_absent, due_response}
use Rattle.laws_guarantees.specs.Vocabulary.{Records}
use Rattle.qc_promise.specs.Vocabulary.{Account, AreDeedsDue, AreRepliesDue, Current, IsReplyDue, Kept, account}
use Rattle.qc_promise.specs.Vocabulary.{account_at, account_told, answer_of, due, found_absent, is_declared_for}
use Rattle.qc_promise.specs.Vocabulary.{new_account, pending_next, reply_to, responded, row_of, running_row}
use Rattle.qc_promise.specs.Vocabulary.{with_absent, with_response}
use Rattle.qc_promise.specs.Rows.{pending_with}
use Rattle.qc_script.specs.Vocabulary.{IsScriptFor, RunsWithFalls}
use Rattle.qc_script.specs.declared.script.Script.{Script}

module _ (decl : Declaration) where
  -- what is due of a client that is up is its row
  row_due : (d : Account) (u : Bool) (reply : Reply) → (replies.Down ≡ reply → ⊥) → due decl d u ≡ Some reply
      → running_row decl d u ≡ Some reply
  row_due d u reply down is = by d.command is
    where
      by_tests : (up declared : Bool) (row : Option Reply)
          → (if up then (if declared then row else None) else Some replies.Down) ≡ Some reply → row ≡ Some reply
      by_tests true true row e = e
      by_tests true false row e = absurd (let never : ⊥ = cc in never)
      by_tests false declared row e = absurd (down (let same : replies.Down ≡ reply = cc in same))

      by : (c : Option Command) → option_and_then (reply_to decl d u) c ≡ Some reply
          → option_and_then (row_of decl d u d.current) c ≡ Some reply
      by None e = absurd (let never : ⊥ = cc in never)
      by (Some command) e = by_tests d.up (is_declared_for decl d.current command) (row_of decl d u d.current command) e

  -- nothing is pending behind it
  written_row : (d : Account) (after : List Deed) (reply : Reply) → (replies.Down ≡ reply → ⊥)
      → pending_with d reply ≡ None → IsReplyDue d (due decl d (is_some (pending_next after))) after reply
      → running_row decl d false ≡ Some reply
  written_row d after reply down none is =
      let nothing : is_some (pending_next after) ≡ false = ap is_some (is.2 ∙ none) in
      subst (λ (u : Bool). running_row decl d u ≡ Some reply) nothing
      (row_due d (is_some (pending_next after)) reply down is.0)

module _ (fits : ℕ → List Record → Type 0) (decl : Declaration) (script : Script) (h : List Entry)
    (open_inputs : List Bool) (accepted : IsAccepted decl) (sound : IsScriptFor decl script)
    (run : RunsWithFalls (IsLawfulWithFalls decl) fits decl script h open_inputs) (kept : Kept h) (a : ℕ)
    (client : is_client decl a ≡ true) (before after : List Entry) where
  parts : (reply : Reply) (more : List Entry)
      → deeds a [] (before ++ marked a (steps.Told reply) ∷ more) ≡ deeds a [] before ++ Tells reply ∷ deeds a
      (mail before ++ option_to_list (envelope_of (marked a (steps.Told reply)))) more
  parts reply more = deeds-append a [] before (marked a (steps.Told reply) ∷ more)
      ∙ ap (λ (b : Bool). deeds a [] before ++
      (cond b (Tells reply ∷ []) [] ++ deeds a
      (mail before ++ option_to_list (envelope_of (marked a (steps.Told reply)))) more)) (eq-eqb a a refl)

  row_told : (reply : Reply) → (replies.Down ≡ reply → ⊥) → pending_with (account decl a before) reply ≡ None
      → h ≡ before ++ marked a (steps.Told reply) ∷ after → running_row decl (account decl a before) false ≡ Some reply
  row_told reply down none is =
      let behind : AreDeedsDue decl (account decl a before)
      (Tells reply ∷ deeds a (mail before ++ option_to_list (envelope_of (marked a (steps.Told reply)))) after) =
      due_behind decl (deeds a [] before) (Tells reply ∷ deeds a
      (mail before ++ option_to_list (envelope_of (marked a (steps.Told reply)))) after)
      (new_account (a - decl.sites))
      (subst (AreRepliesDue decl (a - decl.sites)) (ap (deeds a []) is ∙ parts reply after)
      (client_due fits decl script h open_inputs accepted sound run kept a client)) in
      written_row decl (account decl a before)
      (deeds a (mail before ++ option_to_list (envelope_of (marked a (steps.Told reply)))) after) reply down none
      behind.0

  told_next : (reply : Reply) → account decl a (before ++ marked a (steps.Told reply) ∷ []) ≡ account_told decl
      (account decl a before) reply
  told_next reply = ap (fold (account_at decl) (new_account (a - decl.sites))) (parts reply [])
      ∙ fold-append (account_at decl) (new_account (a - decl.sites)) (deeds a [] before) (Tells reply ∷ [])

  responds : (resp : ℕ) → IsAnswered decl (account decl a before) (Some resp)
      → Records decl a before (replies.Response resp) (Some resp)
  responds resp k =
      record {
        t = k.t;
        begun = k.current;
        object = k.object;
        inv = k.inv;
        answered = k.chose;
        now = with_response decl k.t k.object k.inv (Some k.chose.0);
        begun_now = ap (λ (d : Account). d.current) (told_next (replies.Response resp))
            ∙ ap (λ (c : Option Command). (responded decl (account decl a before) c).current) k.command
            ∙ ap (option_map (λ (x : Current). with_response decl x k.object k.inv (answer_of decl x k.object k.inv)))
            k.current
            ∙ ap (λ (o : Option ℕ). Some (with_response decl k.t k.object k.inv o)) k.chose.1;
        its = refl;
        ops = ap (λ (r : ℕ). k.t.ops ++ record { object = k.object; inv = k.inv; resp = Some r } ∷ []) (sym k.chose.2);
        views = λ o. refl;
      }

  pub response : (resp : ℕ) → h ≡ before ++ marked a (steps.Told (replies.Response resp)) ∷ after
      → Records decl a before (replies.Response resp) (Some resp)
  response resp is = responds resp (due_response decl (account decl a before) resp
      (row_told (replies.Response resp) (λ same. let never : ⊥ = cc in never) refl is))

  finds_none : IsAnswered decl (account decl a before) None → Records decl a before replies.Absent None
  finds_none k = record {
    t = k.t;
    begun = k.current;
    object = k.object;
    inv = k.inv;
    answered = k.chose;
    now = with_absent k.t k.object k.inv;
    begun_now = ap (λ (d : Account). d.current) (told_next replies.Absent)
        ∙ ap (λ (c : Option Command). (found_absent (account decl a before) c).current) k.command
        ∙ ap (option_map (λ (x : Current). with_absent x k.object k.inv)) k.current;
    its = refl;
    ops = refl;
    views = λ o. refl;
  }

  pub absent : h ≡ before ++ marked a (steps.Told replies.Absent) ∷ after → Records decl a before replies.Absent None
  absent is = finds_none (due_absent decl (account decl a before)
      (row_told replies.Absent (λ same. let never : ⊥ = cc in never) refl is))
