-- All deeds of a client are due where two lists are equal: what is due of each, and what is there.
use Rattle.std.proofs.Common.{◌≡◌, ℕ, zero, suc, ◌<◌, ◌==◌, Bool, true, false, List, [], ◌∷◌, Option, Some, None}
use Rattle.std.proofs.Common.{is_some, refl, ap, subst, sym, arith}
use Rattle.std.proofs.lemmas.Bool.{eqb-false, eqb-true}
use Rattle.qc_decl.specs.Vocabulary.{client_actor}
use Rattle.qc_decl.specs.declared.declaration.Declaration.{Declaration}
use Rattle.qc_entry.specs.declared.record.Commit.{Commit}
use Rattle.qc_msg.specs.declared.record.Record.{Record}
use Rattle.qc_msg.specs.declared.record.Record.TheVariants as records
use Rattle.qc_msg.specs.declared.reply.Reply.{Reply}
use Rattle.qc_msg.specs.declared.reply.Reply.TheVariants as replies
use Rattle.qc_msg.specs.declared.step.Command.{Command}
use Rattle.qc_msg.specs.declared.step.Input.{Input}
use Rattle.qc_msg.specs.declared.step.Input.TheVariants as inputs
use Rattle.qc_msg.specs.Vocabulary.{Deed, Entry, Falls, Rises, Sends, Takes, Tells, Writes, deeds}
use Rattle.qc_promise.specs.Vocabulary.{Account, Act, AreDeedsDue, AreRepliesDue, IsDeedDue, IsInputDue, IsRecordDue}
use Rattle.qc_promise.specs.Vocabulary.{account_at, commit_of, due, fallen_in, new_account, pending_next, posted_due}
use Rattle.qc_promise.specs.Vocabulary.{posted_next, record_with, rising_turn}
use Rattle.qc_promise.specs.Rows.{pending_with}

-- what is due of a deed, or what is there
pub record Owed : Type 0 where
  pub reply : Option Reply
  pub command : Option Command
  pub commit : Option Commit
  pub before : Option Commit
  pub pending : Option Record
  pub acts : List Act
  -- a client writes such records
  pub own : Bool

abbrev nothing : Owed
nothing = record { reply = None; command = None; commit = None; before = None; pending = None; acts = []; own = true }

abbrev owed_for : Account → Option Reply → Input → Owed
owed_for d row (inputs.Called command) = record nothing { reply = row; command = d.command }
owed_for d row (inputs.Got envelope) = record nothing { reply = row }
owed_for d row (inputs.Lost number) = record nothing { reply = row }

abbrev owed_record : Account → Option Reply → Record → Owed
owed_record d row records.Life = nothing
owed_record d row (records.Commit c) = record nothing { reply = row; commit = commit_of d c.stamp; before = d.written }
owed_record d row _ = record nothing { own = false }

abbrev owed_at : Declaration → Account → Deed → List Deed → Owed
owed_at decl d (Takes g) after = owed_for d (due decl d false) g
owed_at decl d (Writes r) after = owed_record d (due decl d false) r
owed_at decl d (Sends number to message) after = nothing
owed_at decl d (Tells reply) after =
    record nothing
    { reply = due decl d (is_some (pending_next after)); before = d.written; pending = pending_next after }
owed_at decl d (Falls cause pending) after = nothing
owed_at decl d (Rises kept) after = record nothing { acts = posted_next after }

abbrev given_record : Record → Owed
given_record (records.Commit c) = record nothing { reply = Some (replies.Committed c.stamp); commit = Some c }
given_record _ = nothing

abbrev given_at : Account → Deed → List Deed → Owed
given_at d (Takes g) after = nothing
given_at d (Writes r) after = given_record r
given_at d (Sends number to message) after = nothing
given_at d (Tells reply) after =
    record nothing { reply = Some reply; before = record_with d reply; pending = pending_with d reply }
given_at d (Falls cause pending) after = nothing
given_at d (Rises kept) after = record nothing { acts = posted_due rising_turn (fallen_in (posted_next after)) }

abbrev all_owed : Declaration → Account → List Deed → List Owed
all_owed decl d [] = []
all_owed decl d (x ∷ after) = owed_at decl d x after ∷ all_owed decl (account_at decl d x) after

abbrev all_given : Declaration → Account → List Deed → List Owed
all_given decl d [] = []
all_given decl d (x ∷ after) = given_at d x after ∷ all_given decl (account_at decl d x) after

by_given : (d : Account) (row : Option Reply) (g : Input) → owed_for d row g ≡ nothing → IsInputDue d row g
by_given d row (inputs.Called command) same = (ap (λ (o : Owed). o.reply) same, ap (λ (o : Owed). o.command) same)
by_given d row (inputs.Got envelope) same = (ap (λ (o : Owed). o.reply) same, tt)
by_given d row (inputs.Lost number) same = (ap (λ (o : Owed). o.reply) same, tt)

strange : ◌≡◌ {A = Bool} false true → ⊥
strange e = let never : ⊥ = cc in never

by_record : (d : Account) (row : Option Reply) (r : Record) → owed_record d row r ≡ given_record r → IsRecordDue d row r
by_record d row records.Life same = tt
by_record d row (records.Prepare p) same = strange (ap (λ (o : Owed). o.own) same)
by_record d row (records.Done tx clock) same = strange (ap (λ (o : Owed). o.own) same)
by_record d row (records.Close epoch) same = strange (ap (λ (o : Owed). o.own) same)
by_record d row (records.Install start) same = strange (ap (λ (o : Owed). o.own) same)
by_record d row (records.Commit c) same =
    (ap (λ (o : Owed). o.reply) same, ap (λ (o : Owed). o.commit) same, ap (λ (o : Owed). o.before) same)
by_record d row (records.Decide start) same = strange (ap (λ (o : Owed). o.own) same)

by_deed : (decl : Declaration) (d : Account) (x : Deed) (after : List Deed)
    → owed_at decl d x after ≡ given_at d x after → IsDeedDue decl d x after
by_deed decl d (Takes g) after same = by_given d (due decl d false) g same
by_deed decl d (Writes r) after same = by_record d (due decl d false) r same
by_deed decl d (Sends number to message) after same = tt
by_deed decl d (Tells reply) after same =
    (ap (λ (o : Owed). o.reply) same, ap (λ (o : Owed). o.before) same, ap (λ (o : Owed). o.pending) same)
by_deed decl d (Falls cause pending) after same = tt
by_deed decl d (Rises kept) after same = ap (λ (o : Owed). o.acts) same

-- the two lists, taken apart

abbrev first_of : List Owed → Owed
first_of [] = nothing
first_of (x ∷ xs) = x

abbrev rest_of : List Owed → List Owed
rest_of [] = []
rest_of (x ∷ xs) = xs

deeds_due : (decl : Declaration) (d : Account) (ds : List Deed) → all_owed decl d ds ≡ all_given decl d ds
    → AreDeedsDue decl d ds
deeds_due decl d [] same = tt
deeds_due decl d (x ∷ after) same =
    (by_deed decl d x after (ap first_of same), deeds_due decl (account_at decl d x) after (ap rest_of same))

-- of one client

abbrev pub owed_by : Declaration → ℕ → List Deed → List Owed
owed_by decl client ds = all_owed decl (new_account client) ds

abbrev pub given_by : Declaration → ℕ → List Deed → List Owed
given_by decl client ds = all_given decl (new_account client) ds

pub due_where_shown : (decl : Declaration) (client : ℕ) (ds : List Deed)
    → owed_by decl client ds ≡ given_by decl client ds → AreRepliesDue decl client ds
due_where_shown decl client ds same = deeds_due decl (new_account client) ds same

-- of the clients below a number, the greatest first

abbrev pub all_owed_below : Declaration → List Entry → ℕ → List (List Owed)
all_owed_below decl h zero = []
all_owed_below decl h (suc k) = owed_by decl k (deeds (client_actor decl k) [] h) ∷ all_owed_below decl h k

abbrev pub all_given_below : Declaration → List Entry → ℕ → List (List Owed)
all_given_below decl h zero = []
all_given_below decl h (suc k) = given_by decl k (deeds (client_actor decl k) [] h) ∷ all_given_below decl h k

abbrev head_of : List (List Owed) → List Owed
head_of [] = []
head_of (x ∷ xs) = x

abbrev tail_of : List (List Owed) → List (List Owed)
tail_of [] = []
tail_of (x ∷ xs) = xs

pub all_due_where_shown : (decl : Declaration) (h : List Entry) (n : ℕ)
    → all_owed_below decl h n ≡ all_given_below decl h n → (client : ℕ) → client < n
    → AreRepliesDue decl client (deeds (client_actor decl client) [] h)
all_due_where_shown decl h zero same client below = absurd (omega arith)
all_due_where_shown decl h (suc k) same client below =
    by (client == k) refl (all_due_where_shown decl h k (ap tail_of same) client)
  where
    by : (t : Bool) → (client == k) ≡ t
        → (client < k → AreRepliesDue decl client (deeds (client_actor decl client) [] h))
        → AreRepliesDue decl client (deeds (client_actor decl client) [] h)
    by true here rest =
        subst (λ (c : ℕ). AreRepliesDue decl c (deeds (client_actor decl c) [] h)) (sym (eqb-true client k here))
        (due_where_shown decl k (deeds (client_actor decl k) [] h) (ap head_of same))
    by false other rest = let differs : client ≡ k → ⊥ = eqb-false client k other in rest (omega (arith, differs))
