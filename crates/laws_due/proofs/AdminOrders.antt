-- The administrator's commands are epochs; his replies that are due are told while a command runs, in order.
use Rattle.std.proofs.Common.{[], ◌≡◌, ℕ, zero, suc, ◌+◌, ◌==◌, Bool, true, false, cond, List, ◌∷◌, ◌++◌, map, filter}
use Rattle.std.proofs.Common.{take, Option, Some, None, is_some, refl, sym, ap, ◌∙◌, subst}
use Rattle.std.specs.Prelude.{fold, option_and_then, MatchOption}
use Rattle.std.specs.List.{AllByRecursion as Every, filter_map}
use Rattle.std.proofs.lemmas.Bool.{eqb-true}
use Rattle.qc_decl.specs.Vocabulary.{administrator}
use Rattle.qc_decl.specs.declared.declaration.Declaration.{Declaration}
use Rattle.laws_turns.specs.Vocabulary.{asked_in_all, call_in}
use Rattle.qc_msg.specs.Vocabulary.{Deed, Falls, Rises, Sends, Takes, Tells, Writes, deeds_as, epoch_in, sends_of}
use Rattle.qc_msg.specs.Vocabulary.{tells_of, writes_of}
use Rattle.qc_msg.specs.declared.record.Record.{Record}
use Rattle.qc_msg.specs.declared.reply.Reply.{Reply}
use Rattle.qc_msg.specs.declared.step.Command.{Command}
use Rattle.qc_msg.specs.declared.step.Fall.{Fall}
use Rattle.qc_msg.specs.declared.step.Input.TheVariants as inputs
use Rattle.qc_msg.specs.declared.turn.Appended.TheVariants.{Done}
use Rattle.qc_msg.specs.declared.turn.Posting.{Posting}
use Rattle.qc_msg.specs.declared.turn.Turn.{Turn}
use Rattle.qc_promise.specs.Vocabulary.{AdminAccount, AreAdminDeedsDue, admin_account_at, admin_row, pending_next}
use Rattle.qc_script.specs.Vocabulary.{commands_for}
use Rattle.qc_script.specs.declared.script.CommandLine.{CommandLine}
use Rattle.qc_script.specs.declared.script.PhaseLines.{PhaseLines}
use Rattle.laws_due.specs.Vocabulary.{AreInOrder, IsEpoch}
use Rattle.laws_due.proofs.AdminRunning.{heard_command, sent_command, written_command}
use Rattle.laws_due.proofs.Ordered.{sends_ordered}
use Rattle.qc_list.proofs.Members.{every-append}

-- his commands are epochs

abbrev pub OfEpoch : Option Command → Type 0
OfEpoch None = Unit {0}
OfEpoch (Some c) = IsEpoch c

pub no_command : (o : Option Command) → OfEpoch o → option_and_then epoch_in o ≡ None → is_some o ≡ false
no_command None is none = refl
no_command (Some c) is none = by (epoch_in c) is none
  where
    by : (o : Option ℕ) → MatchOption o ⊥ (λ (x : ℕ). Unit {0}) → o ≡ None → true ≡ false
    by None never none = absurd never
    by (Some number) so none = absurd (let never : ⊥ = cc in never)

module _ (decl : Declaration) where
  pub command_of : (ds : List Deed) (d : AdminAccount) → Every IsEpoch (filter_map call_in ds) → OfEpoch d.command
      → OfEpoch (fold (admin_account_at decl) d ds).command
  command_of [] d all is = is
  command_of (Takes (inputs.Called command) ∷ ds) d all is =
      command_of ds (admin_account_at decl d (Takes (inputs.Called command))) all.1 all.0
  command_of (Takes (inputs.Got envelope) ∷ ds) d all is =
      command_of ds (admin_account_at decl d (Takes (inputs.Got envelope))) all
      (subst OfEpoch (sym (heard_command decl d envelope.message)) is)
  command_of (Takes (inputs.Lost number) ∷ ds) d all is =
      command_of ds (admin_account_at decl d (Takes (inputs.Lost number))) all is
  command_of (Writes r ∷ ds) d all is =
      command_of ds (admin_account_at decl d (Writes r)) all (subst OfEpoch (sym (written_command decl d r)) is)
  command_of (Sends number to message ∷ ds) d all is =
      command_of ds (admin_account_at decl d (Sends number to message)) all
      (subst OfEpoch (sym (sent_command decl d number to message)) is)
  command_of (Tells reply ∷ ds) d all is = command_of ds (admin_account_at decl d (Tells reply)) all tt
  command_of (Falls cause pending ∷ ds) d all is = command_of ds (admin_account_at decl d (Falls cause pending)) all tt
  command_of (Rises kept ∷ ds) d all is = command_of ds (admin_account_at decl d (Rises kept)) all tt

  asked_line : (lines : List CommandLine)
      → Every (λ (l : CommandLine). l.actor ≡ administrator decl → IsEpoch l.command) lines
      → Every IsEpoch (commands_for (administrator decl) lines)
  asked_line [] all = tt
  asked_line (l ∷ lines) all = at (l.actor == administrator decl) refl (asked_line lines all.1)
    where
      at : (t : Bool) → (l.actor == administrator decl) ≡ t → Every IsEpoch (commands_for (administrator decl) lines)
          → Every IsEpoch
          (map (λ (x : CommandLine). x.command)
          (cond t (l ∷ filter (λ (x : CommandLine). x.actor == administrator decl) lines)
          (filter (λ (x : CommandLine). x.actor == administrator decl) lines)))
      at true same rest = (all.0 (eqb-true l.actor (administrator decl) same), rest)
      at false other rest = rest

  pub asked_phases : (phases : List PhaseLines) (k : ℕ)
      → Every
      (λ (p : PhaseLines). Every (λ (l : CommandLine). l.actor ≡ administrator decl → IsEpoch l.command) p.commands)
      phases → Every IsEpoch (asked_in_all (administrator decl) (take k phases))
  asked_phases [] zero all = tt
  asked_phases [] (suc k) all = tt
  asked_phases (p ∷ phases) zero all = tt
  asked_phases (p ∷ phases) (suc k) all =
      every-append IsEpoch (commands_for (administrator decl) p.commands)
      (asked_in_all (administrator decl) (take k phases)) (asked_line p.commands all.0) (asked_phases phases k all.1)

-- replies that are due are told while a command runs

some_command : (decl : Declaration) (d : AdminAccount) (unwritten : Bool) (reply : Reply)
    → option_and_then (admin_row decl d unwritten) d.command ≡ Some reply → is_some d.command ≡ true
some_command decl d unwritten reply is = by d.command is
  where
    by : (o : Option Command) → option_and_then (admin_row decl d unwritten) o ≡ Some reply → is_some o ≡ true
    by None e = absurd (let never : ⊥ = cc in never)
    by (Some c) e = refl

told_runs : (decl : Declaration) (ps : List Posting) (n : ℕ) (d : AdminAccount) (reply : Reply) (ys : List Deed)
    → AreAdminDeedsDue decl d (sends_of n ps ++ Tells reply ∷ ys) → is_some d.command ≡ true
told_runs decl [] n d reply ys dues = some_command decl d (is_some (pending_next ys)) reply (dues.0).0
told_runs decl (p ∷ ps) n d reply ys dues =
    ap (λ (o : Option Command). is_some o) (sym (sent_command decl d n p.to p.message))
    ∙ told_runs decl ps (n + 1) (admin_account_at decl d (Sends n p.to p.message)) reply ys dues.1

pub done_ordered : (decl : Declaration) (d : AdminAccount) (n : ℕ) (t : Turn)
    → AreAdminDeedsDue decl d (deeds_as Done n t)
    → AreInOrder (is_some d.command) (deeds_as Done n t)
done_ordered decl d n t dues = at t.write dues
  where
    told : (e : AdminAccount) → e.command ≡ d.command → (o : Option Reply)
        → AreAdminDeedsDue decl e (sends_of n t.sends ++ tells_of o)
        → AreInOrder (is_some d.command) (sends_of n t.sends ++ tells_of o)
    told e same None due = sends_ordered (is_some d.command) n t.sends [] tt
    told e same (Some reply) due =
        sends_ordered (is_some d.command) n t.sends (Tells reply ∷ [])
        (ap (λ (o : Option Command). is_some o) (sym same) ∙ told_runs decl t.sends n e reply [] due, tt)

    at : (w : Option Record) → AreAdminDeedsDue decl d (writes_of w ++ (sends_of n t.sends ++ tells_of t.told))
        → AreInOrder (is_some d.command) (writes_of w ++ (sends_of n t.sends ++ tells_of t.told))
    at None due = told d refl t.told due
    at (Some written) due =
        (tt, told (admin_account_at decl d (Writes written)) (written_command decl d written) t.told due.1)

pub broken_ordered : (decl : Declaration) (d : AdminAccount) (n : ℕ) (ps : List Posting) (o : Option Reply)
    (cause : Fall)
    (pending : Option Record) → is_some o ≡ true
    → AreAdminDeedsDue decl d (sends_of n ps ++ (tells_of o ++ Falls cause pending ∷ []))
    → AreInOrder (is_some d.command) (sends_of n ps ++ (tells_of o ++ Falls cause pending ∷ []))
broken_ordered decl d n ps None cause pending some dues = absurd (let never : ⊥ = cc in never)
broken_ordered decl d n ps (Some reply) cause pending some dues =
    sends_ordered (is_some d.command) n ps (Tells reply ∷ Falls cause pending ∷ [])
    (told_runs decl ps n d reply (Falls cause pending ∷ []) dues, (refl, tt))

pub due_second : (decl : Declaration) (xs ys : List Deed) (d : AdminAccount) → AreAdminDeedsDue decl d (xs ++ ys)
    → AreAdminDeedsDue decl (fold (admin_account_at decl) d xs) ys
due_second decl [] ys d dues = dues
due_second decl (x ∷ xs) ys d dues = due_second decl xs ys (admin_account_at decl d x) dues.1
