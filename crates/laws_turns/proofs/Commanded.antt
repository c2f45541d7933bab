-- No command comes to a site: what each event of a run adds to that.
use Rattle.std.proofs.Common.{◌≡◌, ℕ, ◌+◌, ◌<◌, ◌≤◌, ◌==◌, ◌&&◌, ◌||◌, nat_le, not, Bool, true, false, cond, List, []}
use Rattle.std.proofs.Common.{◌∷◌, ◌++◌, Option, Some, None, option_to_list, slice_get, refl, sym, ◌∙◌, subst, arith}
use Rattle.std.proofs.Common.{eqb-true}
use Rattle.std.specs.List.{AllByRecursion as Every}
use Rattle.std.specs.Prelude.{MatchOption}
use Rattle.std.proofs.lemmas.Bool.{leb-true, ltb-true}
use Rattle.qc_core.specs.Vocabulary.{AreUncommanded, IsUncommanded}
use Rattle.qc_decl.specs.declared.declaration.Declaration.{Declaration}
use Rattle.qc_decl.specs.Vocabulary.{administrator, is_client, is_site}
use Rattle.qc_list.proofs.Members.{every-append}
use Rattle.qc_msg.specs.declared.message.Envelope.{Envelope}
use Rattle.qc_msg.specs.declared.record.Record.{Record}
use Rattle.qc_msg.specs.declared.reply.Reply.{Reply}
use Rattle.qc_msg.specs.declared.step.Command.{Command}
use Rattle.qc_msg.specs.declared.step.Control.{Control}
use Rattle.qc_msg.specs.declared.step.Input.{Input}
use Rattle.qc_msg.specs.declared.step.Input.TheVariants as inputs
use Rattle.qc_msg.specs.declared.step.Step.{Step}
use Rattle.qc_msg.specs.declared.turn.Appended.{Appended}
use Rattle.qc_msg.specs.declared.turn.Appended.TheVariants.{Done, Failed, Stopped}
use Rattle.qc_msg.specs.declared.turn.Posting.{Posting}
use Rattle.qc_msg.specs.declared.turn.Turn.{Turn}
use Rattle.qc_msg.specs.Vocabulary.{Entry, by, deed_at, deeds, envelope_of, fell, heard, posted_as, sents, step_of}
use Rattle.qc_msg.specs.Vocabulary.{told, wrote, commanded_in}
use Rattle.qc_script.specs.Vocabulary.{Inbox, inbox, ready_in, takes_commands}
use Rattle.qc_script.specs.Ready as ready
use Rattle.laws_turns.proofs.StepCases.{deed_cases}

-- who calls commands

abbrev pub CallsAt : Declaration → ℕ → Step → Type 0
CallsAt decl a step = MatchOption (commanded_in step) (Unit {0}) (λ (command : Command). is_site decl a ≡ false)

abbrev pub IsCalled : Declaration → Entry → Type 0
IsCalled decl e = CallsAt decl e.actor e.step

abbrev pub IsOwnCall : Declaration → ℕ → Input → Type 0
IsOwnCall decl a (inputs.Called command) = is_site decl a ≡ false
IsOwnCall decl a (inputs.Got e) = Unit {0}
IsOwnCall decl a (inputs.Lost n) = Unit {0}

pub input_called : (decl : Declaration) (a : ℕ) (g : Input) → IsOwnCall decl a g → CallsAt decl a (step_of g)
input_called decl a (inputs.Called command) own = own
input_called decl a (inputs.Got e) own = tt
input_called decl a (inputs.Lost n) own = tt

sents_called : (decl : Declaration) (a n : ℕ) (ps : List Posting) (rest : List Step) → Every (IsCalled decl) (by a rest)
    → Every (IsCalled decl) (by a (sents n ps ++ rest))
sents_called decl a n [] rest after = after
sents_called decl a n (p ∷ ps) rest after = (tt, sents_called decl a (n + 1) ps rest after)

told_called : (decl : Declaration) (a : ℕ) (reply : Option Reply) (rest : List Step) → Every (IsCalled decl) (by a rest)
    → Every (IsCalled decl) (by a (told reply ++ rest))
told_called decl a None rest after = after
told_called decl a (Some reply) rest after = (tt, after)

all_told_called : (decl : Declaration) (a : ℕ) (reply : Option Reply) → Every (IsCalled decl) (by a (told reply))
all_told_called decl a None = tt
all_told_called decl a (Some reply) = (tt, tt)

pub post_called : (decl : Declaration) (a n : ℕ) (end : Appended) (t : Turn)
    → Every (IsCalled decl) (by a (posted_as end n t))
post_called decl a n Done t = by_write t.write
  where
    by_write : (w : Option Record) → Every (IsCalled decl) (by a (wrote w ++ (sents n t.sends ++ told t.told)))
    by_write None = sents_called decl a n t.sends (told t.told) (all_told_called decl a t.told)
    by_write (Some written) = (tt, sents_called decl a n t.sends (told t.told) (all_told_called decl a t.told))
post_called decl a n Failed t = sents_called decl a n t.failed_sends (told t.failed_told ++ fell _ t.write)
    (told_called decl a t.failed_told (fell _ t.write) (tt, tt))
post_called decl a n Stopped t = told_called decl a t.failed_told (fell _ t.write) (tt, tt)

-- no command comes to a site

step_uncommanded : (decl : Declaration) (a : ℕ) (ms : List Envelope) (step : Step) → is_site decl a ≡ true
    → CallsAt decl a step → AreUncommanded (deed_at ms step)
step_uncommanded decl a ms step site calls =
    deed_cases ms (λ step ds. CallsAt decl a step → AreUncommanded ds) (λ step w m r calls. tt)
    (λ command calls. absurd (let fails : true ≡ false = sym site ∙ calls in let never : ⊥ = cc in never))
    (λ n calls. by (slice_get ms n)) (λ n calls. (refl, tt)) (λ written calls. (tt, tt))
    (λ n to message calls. (tt, tt)) (λ reply calls. (tt, tt)) (λ cause pending calls. (tt, tt))
    (λ records calls. (tt, tt)) step calls
  where
    by : (o : Option Envelope) → AreUncommanded (heard o)
    by None = tt
    by (Some e) = (refl, tt)

pub uncommanded : (decl : Declaration) (a : ℕ) (ms : List Envelope) (h : List Entry) → is_site decl a ≡ true
    → Every (IsCalled decl) h → AreUncommanded (deeds a ms h)
uncommanded decl a ms [] site calls = tt
uncommanded decl a ms (e ∷ h) site calls =
    every-append IsUncommanded (cond (e.actor == a) (deed_at ms e.step) [])
    (deeds a (ms ++ option_to_list (envelope_of e)) h)
    (mine (e.actor == a) refl) (uncommanded decl a (ms ++ option_to_list (envelope_of e)) h site calls.1)
  where
    mine : (t : Bool) → (e.actor == a) ≡ t → AreUncommanded (cond t (deed_at ms e.step) [])
    mine true same = step_uncommanded decl a ms e.step site
        (subst (λ (k : ℕ). CallsAt decl k e.step) (eqb-true e.actor a same) calls.0)
    mine false differs = tt

-- a command is ready for nobody else

no_site : (decl : Declaration) (a : ℕ) → takes_commands decl a ≡ true → is_site decl a ≡ false
no_site decl a takes = by (is_site decl a) refl
  where
    never_client : a < decl.sites → (x y : Bool) → nat_le decl.sites a ≡ x → x && y ≡ true → ⊥
    never_client low true y is both = let past : decl.sites ≤ a = leb-true decl.sites a is in absurd (omega arith)
    never_client low false y is both = let never : ⊥ = cc in never

    never_admin : a < decl.sites → (a == administrator decl) ≡ true → ⊥
    never_admin low is = let same : a ≡ administrator decl = eqb-true a (administrator decl) is in absurd (omega arith)

    either : a < decl.sites → (x y : Bool) → is_client decl a ≡ x → (a == administrator decl) ≡ y → x || y ≡ true → ⊥
    either low true y client admin is = never_client low (nat_le decl.sites a) _ refl client
    either low false true client admin is = never_admin low admin
    either low false false client admin is = let never : ⊥ = cc in never

    by : (t : Bool) → is_site decl a ≡ t → t ≡ false
    by true is = absurd (either (ltb-true a decl.sites is) (is_client decl a) (a == administrator decl) refl refl takes)
    by false is = refl

command_ready : (decl : Declaration) (a : ℕ) (i : Inbox) (c : Command) → ready_in decl a i ≡ Some (inputs.Called c)
    → takes_commands decl a ≡ true
command_ready decl a i c is = controls i.controls is
  where
    allowed : (t b : Bool) → cond (t && b) (ready.first_command i.commands) None ≡ Some (inputs.Called c) → t ≡ true
    allowed true b is = refl
    allowed false b is = absurd (let never : ⊥ = cc in never)

    loss : (ns : List ℕ) → ready.first_lost ns
        (cond (takes_commands decl a && not i.busy) (ready.first_command i.commands) None) ≡ Some (inputs.Called c)
        → takes_commands decl a ≡ true
    loss [] is = allowed (takes_commands decl a) (not i.busy) is
    loss (m ∷ ns) is = absurd (let never : ⊥ = cc in never)

    copy : (es : List Envelope) → ready.first_copy es
        (ready.first_lost i.lost (cond (takes_commands decl a && not i.busy) (ready.first_command i.commands) None))
        ≡ Some (inputs.Called c) → takes_commands decl a ≡ true
    copy [] is = loss i.lost is
    copy (e ∷ es) is = absurd (let never : ⊥ = cc in never)

    controls : (cs : List Control) → ready.after_controls cs
        (ready.first_copy i.copies (ready.first_lost i.lost
        (cond (takes_commands decl a && not i.busy) (ready.first_command i.commands) None))) ≡ Some (inputs.Called c)
        → takes_commands decl a ≡ true
    controls [] is = copy i.copies is
    controls (x ∷ cs) is = absurd (let never : ⊥ = cc in never)

pub ready_called : (decl : Declaration) (script : _) (a : ℕ) (h : List Entry) (g : Input)
    → ready.ready decl script a h ≡ Some g → IsOwnCall decl a g
ready_called decl script a h (inputs.Called c) is = no_site decl a (command_ready decl a (inbox script a h) c is)
ready_called decl script a h (inputs.Got e) is = tt
ready_called decl script a h (inputs.Lost n) is = tt
