-- The input that the mailboxes show is what is ready.
use Rattle.std.proofs.Common.{◌≡◌, ℕ, ◌<◌, Bool, List, Option, Some, None, option_map, refl, sym, ap, ◌∙◌, subst}
use Rattle.qc_decl.specs.declared.declaration.Declaration.{Declaration}
use Rattle.qc_mailbox.specs.Vocabulary.{Inboxes, IsKept, input_in, input_of}
use Rattle.qc_mailbox.specs.declared.input.ReadyInput.{ReadyInput}
use Rattle.qc_mailbox.proofs.Among.{ready_messages_were_sent}
use Rattle.qc_mailbox.proofs.Seeing.{trays_show_what_is_ready}
use Rattle.qc_msg.specs.declared.message.Envelope.{Envelope}
use Rattle.qc_msg.specs.declared.step.Input.{Input}
use Rattle.qc_msg.specs.declared.step.Input.TheVariants as inputs
use Rattle.qc_msg.specs.Vocabulary.{Entry, WasSentTo, mail}
use Rattle.qc_script.specs.Vocabulary.{ready}
use Rattle.qc_script.specs.declared.script.Script.{Script}
use Rattle.qc_fabric.specs.Vocabulary.{IsInputFor, IsThere, given_by}
use Rattle.qc_link.specs.Vocabulary.{most_actors}
use Rattle.qc_list.proofs.Places.{place_within}

pub record Readies (decl : Declaration) (script : Script) (h : List Entry) (a : ℕ) (input : ReadyInput) : Type 0 where
  pub given : Input
  pub rdy : ready decl script a h ≡ Some given
  pub named : input_of given ≡ input

pub readies : (decl : Declaration) (script : Script) (h : List Entry) (kept : Inboxes) (a : ℕ) (input : ReadyInput)
    → IsKept script h kept → a < most_actors → input_in decl a kept ≡ Some input → Readies decl script h a input
readies decl script h kept a input is low shown = by (ready decl script a h) refl
  where
    by : (o : Option Input) → ready decl script a h ≡ o → Readies decl script h a input
    by None none =
        let here : option_map input_of (ready decl script a h) ≡ input_in decl a kept =
        trays_show_what_is_ready decl script h kept a is low in
        let never : None ≡ Some input = ap (option_map input_of) (sym none) ∙ here ∙ shown in
        absurd (let no : ⊥ = cc in no)
    by (Some g) rdy =
        let here : option_map input_of (ready decl script a h) ≡ input_in decl a kept =
        trays_show_what_is_ready decl script h kept a is low in
        let same : Some (input_of g) ≡ Some input = ap (option_map input_of) (sym rdy) ∙ here ∙ shown in
        record { given = g; rdy = rdy; named = cc }

given_back : (a : ℕ) (ms : List Envelope) (g : Input) → WasSentTo a ms g → given_by ms (input_of g) ≡ Some g
given_back a ms (inputs.Called command) is = refl
given_back a ms (inputs.Got e) is = ap (option_map inputs.Got) is.0
given_back a ms (inputs.Lost number) is = refl

there_by : (a : ℕ) (ms : List Envelope) (g : Input) → WasSentTo a ms g → IsThere ms (input_of g)
there_by a ms (inputs.Called command) is = tt
there_by a ms (inputs.Got e) is = place_within ms e.number e is.0
there_by a ms (inputs.Lost number) is = tt

pub input_there : (decl : Declaration) (script : Script) (h : List Entry) (kept : Inboxes) (a : ℕ) (input : ReadyInput)
    → IsKept script h kept → a < most_actors → input_in decl a kept ≡ Some input → IsThere (mail h) input
input_there decl script h kept a input is low shown =
    let r = readies decl script h kept a input is low shown in
    subst (λ (i : ReadyInput). IsThere (mail h) i) r.named
    (there_by a (mail h) r.given (ready_messages_were_sent decl script h kept a r.given is r.rdy))

pub given_ready : (decl : Declaration) (script : Script) (h : List Entry) (kept : Inboxes) (a : ℕ) (input : ReadyInput)
    (g : Input) → IsKept script h kept → a < most_actors → input_in decl a kept ≡ Some input
    → given_by (mail h) input ≡ Some g
    → ready decl script a h ≡ Some g
given_ready decl script h kept a input g is low shown by =
    let r = readies decl script h kept a input is low shown in
    let back : given_by (mail h) input ≡ Some r.given = ap (λ (i : ReadyInput). given_by (mail h) i) (sym r.named)
    ∙ given_back a (mail h) r.given (ready_messages_were_sent decl script h kept a r.given is r.rdy) in
    r.rdy ∙ (sym back ∙ by)

pub none_ready : (decl : Declaration) (script : Script) (h : List Entry) (kept : Inboxes) (a : ℕ) → IsKept script h kept
    → a < most_actors → input_in decl a kept ≡ None → ready decl script a h ≡ None
none_ready decl script h kept a is low shown = by (ready decl script a h) refl
  where
    by : (o : Option Input) → ready decl script a h ≡ o → ready decl script a h ≡ None
    by None none = none
    by (Some g) rdy =
        let here : option_map input_of (ready decl script a h) ≡ input_in decl a kept =
        trays_show_what_is_ready decl script h kept a is low in
        let never : Some (input_of g) ≡ None = ap (option_map input_of) (sym rdy) ∙ here ∙ shown in
        absurd (let no : ⊥ = cc in no)

-- the same by other names
pub input_as : (d e : Declaration) (h : List Entry) (kept : Inboxes) (bits others : List Bool) (a n : ℕ)
    (o : Option ReadyInput) → d ≡ e → bits ≡ others → a ≡ n → IsInputFor d h kept bits a o
    → IsInputFor e h kept others n o
input_as d e h kept bits others a n o ed eb ea is =
    subst (λ (x : Declaration). IsInputFor x h kept others n o) ed
    (subst (λ (x : List Bool). IsInputFor d h kept x n o) eb
    (subst (λ (x : ℕ). IsInputFor d h kept bits x o) ea is))
