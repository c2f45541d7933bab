-- A reply to a `do` records its operation, and leaves the views.
use Rattle.std.proofs.Common.{◌≡◌, ◌-◌, ℕ, Bool, true, cond, List, [], ◌∷◌, ◌++◌, Option, Some, None, option_map}
use Rattle.std.proofs.Common.{option_to_list, slice_get, refl, sym, ap, ◌∙◌, subst, eq-eqb}
use Rattle.std.specs.Prelude.{fold}
use Rattle.std.proofs.lemmas.List.Sums.{fold-append}
use Rattle.qc_decl.proofs.Clients.{client_within}
use Rattle.qc_core.specs.Vocabulary.{IsLawful}
use Rattle.qc_decl.specs.declared.declaration.Declaration.{Declaration}
use Rattle.qc_decl.specs.Vocabulary.{is_client}
use Rattle.qc_msg.specs.declared.reply.Reply.{Reply}
use Rattle.qc_msg.specs.declared.reply.Reply.TheVariants as replies
use Rattle.qc_msg.specs.declared.step.Command.{Command}
use Rattle.qc_msg.specs.declared.step.Step.TheVariants as steps
use Rattle.qc_msg.specs.Vocabulary.{Entry, Tells, deeds, envelope_of, mail, marked}
use Rattle.qc_msg.proofs.DeedsGrow.{deeds-append}
use Rattle.qc_promise.specs.Vocabulary.{Account, Current, account, account_at, account_told, answer_of, found_absent}
use Rattle.qc_promise.specs.Vocabulary.{new_account, responded, with_absent, with_response}
use Rattle.laws_due.specs.Vocabulary.{AreByRows, IsByRow}
use Rattle.laws_due.proofs.Courses.{deeds_of_clients_are_by_rows}
use Rattle.qc_script.specs.Vocabulary.{Runs}
use Rattle.qc_script.specs.declared.script.Script.{Script}
use Rattle.laws_turns.proofs.Acted.{has_entry, actors_take_and_post_by_turns}
use Rattle.laws_turns.specs.Vocabulary.{ActsIn}
use Rattle.laws_guarantees.proofs.Requests.{due_at}
use Rattle.laws_guarantees.specs.Vocabulary.{Records}
use Rattle.laws_guarantees.proofs.DueResponses.{IsAnswered, due_absent, due_response}

module _ (decl : Declaration) (script : Script) (h : List Entry) (open_inputs : List Bool)
    (run : Runs (IsLawful decl) decl script h open_inputs) (a : ℕ) (client : is_client decl a ≡ true)
    (before after : List Entry) where
  parts : (reply : Reply) (rest : List Entry)
      → deeds a [] (before ++ marked a (steps.Told reply) ∷ rest) ≡ deeds a [] before ++ Tells reply ∷ deeds a
      (mail before ++ option_to_list (envelope_of (marked a (steps.Told reply)))) rest
  parts reply rest = deeds-append a [] before (marked a (steps.Told reply) ∷ rest)
      ∙ ap (λ (b : Bool). deeds a [] before ++
      (cond b (Tells reply ∷ []) [] ++ deeds a
      (mail before ++ option_to_list (envelope_of (marked a (steps.Told reply)))) rest)) (eq-eqb a a refl)

  reply_due : (reply : Reply) → h ≡ before ++ marked a (steps.Told reply) ∷ after
      → IsByRow decl (account decl a before) (Tells reply)
  reply_due reply is = by (has_entry (IsLawful decl) decl script h open_inputs run a (client_within decl a client))
    where
      by : (t : Bool) × (slice_get open_inputs a ≡ Some t) → IsByRow decl (account decl a before) (Tells reply)
      by slot =
          let acts : ActsIn decl a h slot.0 =
          actors_take_and_post_by_turns decl script h open_inputs run a slot.0 slot.1 in
          due_at decl (deeds a [] before) (Tells reply)
          (deeds a (mail before ++ option_to_list (envelope_of (marked a (steps.Told reply)))) after)
          (new_account (a - decl.sites))
          (subst (AreByRows decl (new_account (a - decl.sites))) (ap (deeds a []) is ∙ parts reply after)
          (deeds_of_clients_are_by_rows decl a client (deeds a [] h) slot.0 acts.above acts.acts))

  behind : (reply : Reply) → account decl a (before ++ marked a (steps.Told reply) ∷ []) ≡ account_told decl
      (account decl a before) reply
  behind reply = ap (fold (account_at decl) (new_account (a - decl.sites))) (parts reply [])
      ∙ fold-append (account_at decl) (new_account (a - decl.sites)) (deeds a [] before) (Tells reply ∷ [])

  responds : (resp : ℕ) → IsAnswered decl (account decl a before) (Some resp)
      → Records decl a before (replies.Response resp) (Some resp)
  responds resp k =
      record {
        t = k.t;
        begun = k.current;
        object = k.object;
        inv = k.inv;
        answered = k.chose;
        now = with_response decl k.t k.object k.inv (Some k.chose.0);
        begun_now = ap (λ (d : Account). d.current) (behind (replies.Response resp))
            ∙ ap (λ (c : Option Command). (responded decl (account decl a before) c).current) k.command
            ∙ ap (option_map (λ (x : Current). with_response decl x k.object k.inv (answer_of decl x k.object k.inv)))
            k.current
            ∙ ap (λ (o : Option ℕ). Some (with_response decl k.t k.object k.inv o)) k.chose.1;
        its = refl;
        ops = ap (λ (r : ℕ). k.t.ops ++ record { object = k.object; inv = k.inv; resp = Some r } ∷ []) (sym k.chose.2);
        views = λ o. refl;
      }

  pub response : (resp : ℕ) → h ≡ before ++ marked a (steps.Told (replies.Response resp)) ∷ after
      → Records decl a before (replies.Response resp) (Some resp)
  response resp is = responds resp (due_response decl (account decl a before) resp
      (reply_due (replies.Response resp) is).0)

  finds_none : IsAnswered decl (account decl a before) None → Records decl a before replies.Absent None
  finds_none k = record {
    t = k.t;
    begun = k.current;
    object = k.object;
    inv = k.inv;
    answered = k.chose;
    now = with_absent k.t k.object k.inv;
    begun_now = ap (λ (d : Account). d.current) (behind replies.Absent)
        ∙ ap (λ (c : Option Command). (found_absent (account decl a before) c).current) k.command
        ∙ ap (option_map (λ (x : Current). with_absent x k.object k.inv)) k.current;
    its = refl;
    ops = refl;
    views = λ o. refl;
  }

  pub absent : h ≡ before ++ marked a (steps.Told replies.Absent) ∷ after → Records decl a before replies.Absent None
  absent is = finds_none (due_absent decl (account decl a before) (reply_due replies.Absent is).0)
