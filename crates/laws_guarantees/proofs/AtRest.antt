-- Where a site has taken all that was sent to it, what it holds is of transactions that are begun.
use Rattle.std.proofs.Common.{◌≡◌, ℕ, Bool, true, List, [], ◌++◌, Some, sym, ap, ◌∙◌}
use Rattle.std.specs.List.{AllByRecursion as Every}
use Rattle.std.proofs.lemmas.List.{append-nil}
use Rattle.qc_list.proofs.Members.{every-weaker}
use Rattle.qc_core.specs.Vocabulary.{IsLawful}
use Rattle.qc_decl.specs.Vocabulary.{IsAccepted, client_actor}
use Rattle.qc_decl.specs.declared.declaration.Declaration.{Declaration}
use Rattle.laws_turns.specs.Vocabulary.{AsksDeclared}
use Rattle.qc_lock.specs.declared.held.Held.{Held}
use Rattle.qc_msg.specs.Vocabulary.{Entry, deeds, mail}
use Rattle.qc_msg.specs.declared.message.Envelope.{Envelope}
use Rattle.qc_script.specs.Vocabulary.{Runs, inbox}
use Rattle.qc_script.specs.declared.script.Script.{Script}
use Rattle.qc_site.specs.Vocabulary.{site_after}
use Rattle.laws_guarantees.specs.Vocabulary.{Arrives, IsUndisturbed, begun_by, is_open, sent_to, taken}
use Rattle.laws_guarantees.proofs.Held.{held_open}
use Rattle.laws_guarantees.proofs.OwnWords.{open_begun}
use Rattle.laws_guarantees.proofs.Passing.{no_request_is_lost}
use Rattle.laws_guarantees.proofs.Uncut.{calm_deeds}

pub what_is_held_at_rest_is_begun : (decl : Declaration) (script : Script) → IsAccepted decl → AsksDeclared decl script
    → IsUndisturbed script → (h : List Entry) (open_inputs : List Bool) → Runs (IsLawful decl) decl script h open_inputs
    → (site : ℕ) → (inbox script site h).copies ≡ []
    → Every (λ (x : Held). begun_by decl (client_actor decl x.tx.client) h ≡ Some x.tx)
    (site_after decl site (deeds site [] h)).site.held
what_is_held_at_rest_is_begun decl script accepted asks calm h open_inputs run site none =
    every-weaker (λ (x : Held). is_open x.tx (taken site h) ≡ true)
    (λ (x : Held). begun_by decl (client_actor decl x.tx.client) h ≡ Some x.tx)
    (λ x is. open_begun decl script accepted asks h open_inputs run site x.tx (ap (is_open x.tx) (sym all) ∙ is))
    (site_after decl site (deeds site [] h)).site.held
    (held_open decl site (deeds site [] h) (calm_deeds decl script accepted asks h open_inputs run site))
  where
    r : Arrives script site h
    r = no_request_is_lost decl script h open_inputs calm.lossless run site

    all : taken site h ≡ sent_to site (mail h)
    all = sym (append-nil (taken site h)) ∙ ap (λ (v : List Envelope). taken site h ++ v) (sym none ∙ r.calm.copies)
        ∙ r.in_order
