-- In each run of an accepted declaration whose script names declared objects, each request goes from a client to a
-- site, and names what is declared.
use Rattle.std.proofs.Common.{[], ◌≡◌, ℕ, ◌+◌, ◌-◌, ◌<◌, ◌≤◌, Bool, true, false, if◌then◌else◌, List, ◌∷◌, ◌++◌, length}
use Rattle.std.proofs.Common.{Some, None, refl, sym, ap, ◌∙◌, subst, arith}
use Rattle.std.specs.List.{AllByRecursion as Every}
use Rattle.std.specs.Bool.{MatchBool}
use Rattle.qc_core.specs.Vocabulary.{IsLawful}
use Rattle.qc_decl.specs.declared.declaration.Declaration.{Declaration}
use Rattle.qc_decl.specs.Vocabulary.{IsAccepted, administrator, controller, is_client, is_site}
use Rattle.qc_decl.proofs.Clients.{client_below, client_past}
use Rattle.qc_msg.specs.declared.message.Envelope.{Envelope}
use Rattle.qc_msg.specs.declared.message.Message.{Message}
use Rattle.qc_msg.specs.declared.message.Message.TheVariants as messages
use Rattle.qc_msg.specs.declared.step.Step.TheVariants as steps
use Rattle.qc_msg.specs.declared.turn.Posting.{Posting}
use Rattle.qc_msg.specs.declared.turn.Turn.{Turn}
use Rattle.qc_msg.specs.Vocabulary.{Deed, Entry, by, deeds, envelopes, mail, posted, Requested, request_in}
use Rattle.qc_msg.specs.Vocabulary.{wants_answer}
use Rattle.qc_msg.proofs.GrownMail.{mail-append, mail-posted, mail-taken}
use Rattle.qc_client.specs.Vocabulary.{client_after}
use Rattle.qc_script.specs.Vocabulary.{Runs, phase_of}
use Rattle.qc_script.specs.Runs.{begins, takes, posts, phase, control}
use Rattle.qc_script.specs.declared.script.Script.{Script}
use Rattle.qc_site.specs.Vocabulary.{site_after, names_declared}
use Rattle.laws_turns.specs.Vocabulary.{AsksDeclared}
use Rattle.laws_turns.proofs.Numbered.{control_silent, mail-silent, phase_silent}
use Rattle.laws_turns.proofs.Rounds.{AreProper, IsProper}
use Rattle.laws_turns.proofs.SiteReplies.{IsMailProper, IsProperFrom, asks_nothing}
use Rattle.laws_turns.proofs.SoundClients.{IsAskableDeed, run_askable, client_proper}
use Rattle.laws_turns.proofs.ReadingCases.{matched_by}
use Rattle.qc_list.proofs.Members.{every-append}

-- what an actor's turn sends: a site asks nothing, a client asks sites

from_client : (decl : Declaration) (from to : ℕ) (m : Message) → decl.sites ≤ from → IsProper decl to m
    → IsProperFrom decl from to m
from_client decl from to m past is =
    matched_by (MatchBool (wants_answer m) ⊥ (Unit {0})) (MatchBool (wants_answer m) ⊥ (Unit {0}))
    (λ (q : Requested). (to < decl.sites) × (names_declared decl q.tx q.want ≡ true))
    (λ (q : Requested). (decl.sites ≤ from) × IsProper decl to (messages.Request q.tx q.epoch q.life q.want))
    (request_in m) (λ q its. (past, its)) (λ none. none) is

client_mail : (decl : Declaration) (a n : ℕ) (ps : List Posting) → decl.sites ≤ a → AreProper decl ps
    → IsMailProper decl (envelopes a n ps)
client_mail decl a n [] past are = tt
client_mail decl a n (p ∷ ps) past are =
    (from_client decl a p.to p.message past are.0, client_mail decl a (n + 1) ps past are.1)

lawful_mail : (decl : Declaration) (accepted : IsAccepted decl) (a n : ℕ) (ds : List Deed) (turn : Turn)
    → Every (IsAskableDeed decl a) ds → IsLawful decl a ds turn → IsMailProper decl (envelopes a n turn.sends)
lawful_mail decl accepted a n ds turn are law = at (is_site decl a) (is_client decl a) refl law
  where
    client : is_client decl a ≡ true → turn ≡ (client_after decl (a - decl.sites) ds).turn
        → IsMailProper decl (envelopes a n turn.sends)
    client is same =
        let past : decl.sites ≤ a = client_past decl a is in
        let low : a < administrator decl = client_below decl a is in
        subst (λ (t : Turn). IsMailProper decl (envelopes a n t.sends)) (sym same)
        (client_mail decl a n (client_after decl (a - decl.sites) ds).turn.sends past
        (client_proper decl accepted a (a - decl.sites) (omega arith) ds are))

    at : (s c : Bool) → is_client decl a ≡ c
        → (if s then Some (site_after decl a ds).turn else
        (if c then Some (client_after decl (a - decl.sites) ds).turn else None)) ≡ Some turn
        → IsMailProper decl (envelopes a n turn.sends)
    at true c is law_is =
        subst (λ (t : Turn). IsMailProper decl (envelopes a n t.sends))
        (let same : (site_after decl a ds).turn ≡ turn = cc in same) (asks_nothing decl a n ds)
    at false true is law_is = client is (let same : turn ≡ (client_after decl (a - decl.sites) ds).turn = cc in same)
    at false false is law_is = absurd (let never : ⊥ = cc in never)

pub run_proper : (decl : Declaration) (script : Script) → IsAccepted decl → AsksDeclared decl script
    → (h : List Entry) (open_inputs : List Bool) → Runs (IsLawful decl) decl script h open_inputs
    → IsMailProper decl (mail h)
run_proper decl script accepted asks h open_inputs begins = tt
run_proper decl script accepted asks h open_inputs (takes a taken before older run free ready) =
    subst (IsMailProper decl) (sym (mail-taken older a taken)) (run_proper decl script accepted asks older before run)
run_proper decl script accepted asks h open_inputs (posts a turn before older run taken law) =
    subst (IsMailProper decl)
    (sym (mail-append older (by a (posted (length (mail older)) turn))
    ∙ ap (λ (v : List Envelope). mail older ++ v) (mail-posted a (length (mail older)) turn)))
    (every-append (λ (e : Envelope). IsProperFrom decl e.from e.to e.message) (mail older)
    (envelopes a (length (mail older)) turn.sends) (run_proper decl script accepted asks older before run)
    (lawful_mail decl accepted a (length (mail older)) (deeds a [] older) turn
    (run_askable decl script a older before asks run) law))
run_proper decl script accepted asks h open_inputs (phase before older run none done quiet_all more) =
    subst (IsMailProper decl)
    (sym
    (mail-silent older (controller decl) (steps.Phase (phase_of older + 1)) (phase_silent (phase_of older + 1))))
    (run_proper decl script accepted asks older before run)
run_proper decl script accepted asks h open_inputs (control line lines step before older run left is) =
    subst (IsMailProper decl) (sym (mail-silent older (controller decl) step (control_silent line step is)))
    (run_proper decl script accepted asks older before run)
