-- All deeds of the administrator are due where two lists are equal: what is due of each, and what is there.
use Rattle.std.proofs.Common.{◌≡◌, Bool, true, false, List, [], ◌∷◌, Option, Some, None, is_some, option_map, refl, ap}
use Rattle.qc_decl.specs.declared.declaration.Declaration.{Declaration}
use Rattle.qc_msg.specs.declared.record.Record.{Record}
use Rattle.qc_msg.specs.declared.record.Record.TheVariants as records
use Rattle.qc_msg.specs.declared.reply.Reply.{Reply}
use Rattle.qc_msg.specs.declared.step.Command.{Command}
use Rattle.qc_msg.specs.declared.step.Input.{Input}
use Rattle.qc_msg.specs.declared.step.Input.TheVariants as inputs
use Rattle.qc_msg.specs.Vocabulary.{Deed, Falls, Rises, Sends, Takes, Tells, Writes}
use Rattle.qc_msg.specs.declared.payload.EpochStart.{EpochStart}
use Rattle.qc_promise.specs.Vocabulary.{Act, AdminAccount, AreAdminDeedsDue, IsAdminDeedDue, IsAdminDue}
use Rattle.qc_promise.specs.Vocabulary.{IsAdminInputDue, IsAdminRecordDue, IsDecisionMet, admin_account_at, admin_due}
use Rattle.qc_promise.specs.Vocabulary.{decide_due, decide_record, fallen_in, is_called_for, new_admin_account}
use Rattle.qc_promise.specs.Vocabulary.{pending_next, posted_due, posted_next, rising_turn}

pub record Owed : Type 0 where
  pub reply : Option Reply
  pub command : Option Command
  pub decision : Option EpochStart
  pub before : Option EpochStart
  pub pending : Option Record
  pub acts : List Act
  pub own : Bool

abbrev nothing : Owed
nothing = record { reply = None; command = None; decision = None; before = None; pending = None; acts = []; own = true }

abbrev owed_command : AdminAccount → Input → Option Command
owed_command d (inputs.Called command) = d.command
owed_command d (inputs.Got envelope) = None
owed_command d (inputs.Lost number) = None

abbrev owed_record : Declaration → AdminAccount → Record → Owed
owed_record decl d records.Life = nothing
owed_record decl d (records.Decide start) = record nothing { decision = decide_due decl d; before = d.written }
owed_record decl d _ = record nothing { own = false }

abbrev given_record : Record → Owed
given_record (records.Decide start) = record nothing { decision = Some start }
given_record _ = nothing

abbrev owed_told : Declaration → AdminAccount → Option Record → Owed
owed_told decl d None = record nothing { reply = admin_due decl d false; before = d.written }
owed_told decl d (Some r) =
    record nothing
    { reply = admin_due decl d true; before = d.written; pending = option_map decide_record (decide_due decl d) }

abbrev given_told : Declaration → AdminAccount → Reply → Option Record → Owed
given_told decl d reply None = record nothing { reply = Some reply; before = decide_due decl d }
given_told decl d reply (Some r) = record nothing { reply = Some reply; pending = Some r }

abbrev owed_at : Declaration → AdminAccount → Deed → List Deed → Owed
owed_at decl d (Takes g) after =
    record nothing { reply = admin_due decl d false; before = d.written; command = owed_command d g }
owed_at decl d (Writes r) after = owed_record decl d r
owed_at decl d (Sends number to message) after = record nothing { own = is_called_for decl d to message }
owed_at decl d (Tells reply) after = owed_told decl d (pending_next after)
owed_at decl d (Falls cause pending) after = nothing
owed_at decl d (Rises kept) after = record nothing { acts = posted_next after }

abbrev given_at : Declaration → AdminAccount → Deed → List Deed → Owed
given_at decl d (Takes g) after = record nothing { before = decide_due decl d }
given_at decl d (Writes r) after = given_record r
given_at decl d (Sends number to message) after = nothing
given_at decl d (Tells reply) after = given_told decl d reply (pending_next after)
given_at decl d (Falls cause pending) after = nothing
given_at decl d (Rises kept) after = record nothing { acts = posted_due rising_turn (fallen_in (posted_next after)) }

abbrev all_owed : Declaration → AdminAccount → List Deed → List Owed
all_owed decl d [] = []
all_owed decl d (x ∷ after) = owed_at decl d x after ∷ all_owed decl (admin_account_at decl d x) after

abbrev all_given : Declaration → AdminAccount → List Deed → List Owed
all_given decl d [] = []
all_given decl d (x ∷ after) = given_at decl d x after ∷ all_given decl (admin_account_at decl d x) after

by_given : (decl : Declaration) (d : AdminAccount) (g : Input)
    → record nothing { reply = admin_due decl d false; before = d.written; command = owed_command d g }
    ≡ record nothing { before = decide_due decl d } → IsAdminInputDue decl d g
by_given decl d (inputs.Called command) same =
    (ap (λ (o : Owed). o.reply) same, ap (λ (o : Owed). o.before) same, ap (λ (o : Owed). o.command) same)
by_given decl d (inputs.Got envelope) same = (ap (λ (o : Owed). o.reply) same, ap (λ (o : Owed). o.before) same, tt)
by_given decl d (inputs.Lost number) same = (ap (λ (o : Owed). o.reply) same, ap (λ (o : Owed). o.before) same, tt)

strange : ◌≡◌ {A = Bool} false true → ⊥
strange e = let never : ⊥ = cc in never

by_record : (decl : Declaration) (d : AdminAccount) (r : Record) → owed_record decl d r ≡ given_record r
    → IsAdminRecordDue decl d r
by_record decl d records.Life same = tt
by_record decl d (records.Prepare p) same = strange (ap (λ (o : Owed). o.own) same)
by_record decl d (records.Done tx clock) same = strange (ap (λ (o : Owed). o.own) same)
by_record decl d (records.Close epoch) same = strange (ap (λ (o : Owed). o.own) same)
by_record decl d (records.Install start) same = strange (ap (λ (o : Owed). o.own) same)
by_record decl d (records.Commit c) same = strange (ap (λ (o : Owed). o.own) same)
by_record decl d (records.Decide start) same = (ap (λ (o : Owed). o.decision) same, ap (λ (o : Owed). o.before) same)

by_told : (decl : Declaration) (d : AdminAccount) (reply : Reply) (p : Option Record)
    → owed_told decl d p ≡ given_told decl d reply p
    → (admin_due decl d (is_some p) ≡ Some reply) × IsDecisionMet decl d p
by_told decl d reply None same = (ap (λ (o : Owed). o.reply) same, ap (λ (o : Owed). o.before) same)
by_told decl d reply (Some r) same =
    (ap (λ (o : Owed). o.reply) same, (ap (λ (o : Owed). o.before) same, ap (λ (o : Owed). o.pending) same))

by_deed : (decl : Declaration) (d : AdminAccount) (x : Deed) (after : List Deed)
    → owed_at decl d x after ≡ given_at decl d x after → IsAdminDeedDue decl d x after
by_deed decl d (Takes g) after same = by_given decl d g same
by_deed decl d (Writes r) after same = by_record decl d r same
by_deed decl d (Sends number to message) after same = ap (λ (o : Owed). o.own) same
by_deed decl d (Tells reply) after same = by_told decl d reply (pending_next after) same
by_deed decl d (Falls cause pending) after same = tt
by_deed decl d (Rises kept) after same = ap (λ (o : Owed). o.acts) same

abbrev first_of : List Owed → Owed
first_of [] = nothing
first_of (x ∷ xs) = x

abbrev rest_of : List Owed → List Owed
rest_of [] = []
rest_of (x ∷ xs) = xs

deeds_due : (decl : Declaration) (d : AdminAccount) (ds : List Deed) → all_owed decl d ds ≡ all_given decl d ds
    → AreAdminDeedsDue decl d ds
deeds_due decl d [] same = tt
deeds_due decl d (x ∷ after) same =
    (by_deed decl d x after (ap first_of same), deeds_due decl (admin_account_at decl d x) after (ap rest_of same))

abbrev pub owed_by : Declaration → List Deed → List Owed
owed_by decl ds = all_owed decl new_admin_account ds

abbrev pub given_by : Declaration → List Deed → List Owed
given_by decl ds = all_given decl new_admin_account ds

pub admin_due_where_shown : (decl : Declaration) (ds : List Deed) → owed_by decl ds ≡ given_by decl ds
    → IsAdminDue decl ds
admin_due_where_shown decl ds same = deeds_due decl new_admin_account ds same
