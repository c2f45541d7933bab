-- An operation that is answered from its view: its reply is one that the view and its own lines allow.
use Rattle.std.proofs.Common.{◌≡◌, ℕ, ◌==◌, Bool, true, false, List, [], ◌∷◌, Option, Some, None, is_some, option_map}
use Rattle.std.proofs.Common.{option_and_then, refl, ap, ◌∙◌, subst}
use Rattle.std.specs.declared.cmp.Ordering.{Ordering}
use Rattle.std.specs.declared.cmp.Ordering.TheVariants.{Less, Equal, Greater}
use Rattle.qc_cert.specs.Vocabulary.{allows, state_after}
use Rattle.qc_decl.specs.declared.declaration.Declaration.{Declaration}
use Rattle.qc_entry.specs.Vocabulary.{line_cmp}
use Rattle.qc_entry.specs.declared.line.Line.{Line}
use Rattle.theory_onecopy.specs.Vocabulary.{Executed, IsAnswered, IsLineBefore, IsOrdered, Replies, events_seen}
use Rattle.theory_onecopy.specs.Vocabulary.{kind_at}
use Rattle.theory_witnesses.proofs.Cases.{none_some, one_some}
use Rattle.theory_witnesses.proofs.Alike.{same_option}
use Rattle.theory_witnesses.proofs.Finding.{both, every, is_true, same_number}
use Rattle.qc_table.specs.Vocabulary.{event, event_number, events_of, next_in}
use Rattle.qc_table.specs.declared.kind.Kind.{Kind}
use Rattle.qc_table.specs.declared.row.Row.{Row}

-- no row is for this invocation in this state
abbrev no_row_for : (rows : List Row) (state inv : ℕ) → Option ((resp : ℕ) → next_in rows state (event inv resp) ≡ None)
no_row_for [] state inv = Some (λ resp. refl)
no_row_for (row ∷ rows) state inv = by (row.state == state) (row.inv == inv) refl refl (no_row_for rows state inv)
  where
    by : (s i : Bool) → (row.state == state) ≡ s → (row.inv == inv) ≡ i
        → Option ((resp : ℕ) → next_in rows state (event inv resp) ≡ None)
        → Option ((resp : ℕ) → next_in (row ∷ rows) state (event inv resp) ≡ None)
    by s i d e None = None
    by true true d e (Some rest) = None
    by false i d e (Some rest) = Some (λ resp. rw d (rest resp))
    by true false d e (Some rest) = Some (λ resp. rw (d, e) (rest resp))

-- a view allows the invocation no response
abbrev no_reply : (kind : Kind) (history : List ℕ) (inv : ℕ)
    → Option ((resp : ℕ) → allows kind history inv resp ≡ false)
no_reply kind history inv = by (state_after kind history) refl
  where
    by : (o : Option ℕ) → state_after kind history ≡ o → Option ((resp : ℕ) → allows kind history inv resp ≡ false)
    by None e = Some (λ resp. ap (λ (o : Option ℕ). is_some
        (option_and_then (λ state. next_in kind.table.rows state (event inv resp)) o)) e)
    by (Some state) e = option_map never (no_row_for kind.table.rows state inv)
      where
        never : ((resp : ℕ) → next_in kind.table.rows state (event inv resp) ≡ None) → (resp : ℕ)
            → allows kind history inv resp ≡ false
        never none resp =
            ap (λ (o : Option ℕ). is_some (option_and_then (λ state. next_in kind.table.rows state (event inv resp)) o))
            e
            ∙ ap (λ (o : Option ℕ). is_some o) (none resp)

abbrev replies : (kind : Kind) (history : List ℕ) (inv : ℕ) (o : Option ℕ) → Option (Replies kind history inv o)
replies kind history inv None = no_reply kind history inv
replies kind history inv (Some resp) = is_true (allows kind history inv resp)

abbrev has_number : (kind : Kind) (inv number : ℕ) (o : Option ℕ)
    → Option ((resp : ℕ) → o ≡ Some resp → event_number (events_of kind.table.rows) (event inv resp) ≡ Some number)
has_number kind inv number None = Some (λ resp e. absurd (none_some e))
has_number kind inv number (Some r) = option_map by
    (same_option same_number (event_number (events_of kind.table.rows) (event inv r)) (Some number))
  where
    by : event_number (events_of kind.table.rows) (event inv r) ≡ Some number → (resp : ℕ) → Some r ≡ Some resp
        → event_number (events_of kind.table.rows) (event inv resp) ≡ Some number
    by e resp f = subst (λ (x : ℕ). event_number (events_of kind.table.rows) (event inv x) ≡ Some number) (one_some f) e

abbrev line_before : (l m : Line) → Option (IsLineBefore l m)
line_before l m = by (line_cmp l m) refl
  where
    by : (o : Ordering) → line_cmp l m ≡ o → Option (line_cmp l m ≡ Less)
    by Less e = Some e
    by Equal e = None
    by Greater e = None

abbrev lines_in_order : (view : List Line) → Option (IsOrdered IsLineBefore view)
lines_in_order [] = Some tt
lines_in_order (l ∷ ls) = both (every (λ (m : Line). IsLineBefore l m) (line_before l) ls) (lines_in_order ls)

abbrev pub is_answered : (decl : Declaration) (d : Executed) → Option (IsAnswered decl d)
is_answered decl d = by (kind_at decl d.op.object) refl
  where
    by : (o : Option Kind) → kind_at decl d.op.object ≡ o → Option (IsAnswered decl d)
    by None e = None
    by (Some k) e = option_map made (both (has_number k d.op.inv d.event d.op.resp)
        (both (replies k (events_seen d) d.op.inv d.op.resp) (lines_in_order d.view)))
      where
        made : ((resp : ℕ) → d.op.resp ≡ Some resp
            → event_number (events_of k.table.rows) (event d.op.inv resp) ≡ Some d.event)
            × (Replies k (events_seen d) d.op.inv d.op.resp × IsOrdered IsLineBefore d.view) → IsAnswered decl d
        made f = record { kind = k; typed = e; numbered = f.0; replies = (f.1).0; sorted = (f.1).1 }
