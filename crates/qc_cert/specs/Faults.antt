-- The first fault of a list of triples: triples in their order; in each, events left out by number, then invocations by
-- number: unequal responses first, then events taken by number.
use Rattle.std.specs.Prelude.{◌≡◌, ℕ, suc, Bool, true, false, ◌==◌, ◌&&◌, List, [], ◌∷◌, length, Option, Some, None}
use Rattle.std.specs.Prelude.{if◌then◌else◌, option_and_then}
use Rattle.std.specs.List.{list_any}
use Rattle.std.specs.Option.{option_or}
use Rattle.qc_cert.specs.Inductive.{triple, is_allowed}
use Rattle.qc_cert.specs.Views.{inv_of}
use Rattle.qc_cert.specs.declared.fault.CertFault.{CertFault}
use Rattle.qc_cert.specs.declared.fault.CertFault.TheVariants.{NoStart, Uncovered, Unequal, OutOfMemory}
use Rattle.qc_cert.specs.declared.triple.Triple.{Triple}
use Rattle.qc_table.specs.Vocabulary.{are_apart, depended, events_of, is_within, step_of, with_member}
use Rattle.qc_list.specs.Vocabulary.{first_below}
use Rattle.qc_table.specs.declared.kind.Kind.{Kind}

-- whether the first covers the second
abbrev pub covers : Triple → Triple → Bool
covers a b = (a.view == b.view) && ((a.log == b.log) && is_within a.out b.out)

abbrev pub is_covered : List Triple → Triple → Bool
is_covered list t = list_any (λ a. covers a t) list

-- whether the invocation depends on nothing that is left out
abbrev pub is_free : Kind → ℕ → ℕ → Bool
is_free kind inv out = are_apart (depended kind.relation inv) out

-- the fault, where the triple isn't covered
abbrev pub unless_covered : List Triple → CertFault → Triple → Option CertFault
unless_covered list fault t = if is_covered list t then None else Some fault

-- an event that the log takes and the view leaves out
abbrev pub left_out_fault : Kind → List Triple → ℕ → Triple → ℕ → Option CertFault
left_out_fault kind list place t e =
    option_and_then (λ h. unless_covered list (Uncovered place e false) (triple t.view h (with_member t.out e)))
    (step_of kind.table.rows t.log e)

-- a response that one state has and the other hasn't
abbrev pub unequal_fault : Kind → ℕ → Triple → ℕ → ℕ → Option CertFault
unequal_fault kind place t inv resp =
    if is_allowed kind t.view inv resp
    then (if is_allowed kind t.log inv resp then None else Some (Unequal place inv resp))
    else if is_allowed kind t.log inv resp then Some (Unequal place inv resp) else None

-- an event of the invocation that both take
abbrev pub taken_fault : Kind → List Triple → ℕ → Triple → ℕ → ℕ → Option CertFault
taken_fault kind list place t inv e =
    if inv_of kind e == inv
    then option_and_then
    (λ g. option_and_then (λ h. unless_covered list (Uncovered place e true) (triple g h t.out))
    (step_of kind.table.rows t.log e))
    (step_of kind.table.rows t.view e)
    else None

-- an invocation, where it depends on nothing left out
abbrev pub inv_fault : Kind → List Triple → ℕ → Triple → ℕ → Option CertFault
inv_fault kind list place t inv =
    if is_free kind inv t.out
    then option_or (first_below kind.table.resps (unequal_fault kind place t inv))
    (first_below (length (events_of kind.table.rows)) (taken_fault kind list place t inv))
    else None

-- a triple
abbrev pub triple_fault : Kind → List Triple → ℕ → Triple → Option CertFault
triple_fault kind list place t =
    option_or (first_below (length (events_of kind.table.rows)) (left_out_fault kind list place t))
    (first_below kind.table.invs (inv_fault kind list place t))

-- the triples from a place on
abbrev pub triples_fault : Kind → List Triple → ℕ → List Triple → Option CertFault
triples_fault kind list place [] = None
triples_fault kind list place (t ∷ ts) =
    option_or (triple_fault kind list place t) (triples_fault kind list (suc place) ts)

-- what is wrong with the list, if anything
abbrev pub fault_of : Kind → List Triple → Option CertFault
fault_of kind list =
    option_or (unless_covered list NoStart (triple kind.table.start kind.table.start 0))
    (triples_fault kind list 0 list)

-- the fault told is the fault there is; want of memory may be told of any list
abbrev pub IsTold : CertFault → Option CertFault → Type 0
IsTold NoStart fault = fault ≡ Some NoStart
IsTold (Uncovered place e taken) fault = fault ≡ Some (Uncovered place e taken)
IsTold (Unequal place inv resp) fault = fault ≡ Some (Unequal place inv resp)
IsTold OutOfMemory fault = Unit {0}
