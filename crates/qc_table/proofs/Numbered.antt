-- A legal event has a number, and what `first_of` answers is the number of a legal event.
use Rattle.std.proofs.Common.{◌≡◌, ℕ, ◌<◌, Bool, true, false, cond, List, [], ◌∷◌, ◌++◌, Option, Some, None, length}
use Rattle.std.proofs.Common.{get_or, refl, sym, ap, ◌∙◌, subst}
use Rattle.std.specs.Prelude.{IsSome, IfSome, option_and_then, ◌==◌, ◌||◌, fold, slice_get}
use Rattle.std.specs.List.{list_any}
use Rattle.std.proofs.lemmas.Bool.{and_parts, eqb-true, eq-eqb}
use Rattle.std.proofs.lemmas.List.Folds.{list_any-append}
use Rattle.std.proofs.lemmas.List.Quantifiers.{position-Some}
use Rattle.std.proofs.lemmas.Option.{slice_get-get_or, slice_get_within}
use Rattle.qc_table.specs.declared.row.Row.{Row}
use Rattle.qc_table.specs.declared.row.Event.{Event}
use Rattle.qc_table.specs.Vocabulary.{IsLowest, event, event_number, event_of, events_of, first_of, is_row_of}
use Rattle.qc_table.specs.Vocabulary.{lowest_in, next_in, same_event, step_of, with_event}
use Rattle.qc_table.proofs.Legal.{is_legal, legal_cons}
use Rattle.qc_table.proofs.Places.{position_none}
use Rattle.qc_table.proofs.Lowest.{lowest_legal, none_lower}

-- the test finds equal events
pub same_is : (a b : Event) → same_event a b ≡ true → a ≡ b
same_is a b e =
    let invs : a.inv ≡ b.inv = eqb-true a.inv b.inv (and_parts (a.inv == b.inv) (a.resp == b.resp) e).0 in
    let resps : a.resp ≡ b.resp = eqb-true a.resp b.resp (and_parts (a.inv == b.inv) (a.resp == b.resp) e).1 in
    ap (λ i. event i a.resp) invs ∙ ap (event b.inv) resps

-- and finds each event equal to itself
pub same_itself : (a : Event) → same_event a a ≡ true
same_itself a = rw (eq-eqb a.inv a.inv refl, eq-eqb a.resp a.resp refl)

-- whether an event is among events
abbrev pub is_among : Event → List Event → Bool
is_among e events = list_any (λ x. same_event x e) events

-- an event that was added is there
among_with : (events : List Event) (e : Event) → is_among e (with_event events e) ≡ true
among_with events e = by (is_among e events) refl
  where
    by : (b : Bool) → is_among e events ≡ b → is_among e (cond b events (events ++ e ∷ [])) ≡ true
    by true h = h
    by false h = list_any-append (λ x. same_event x e) events (e ∷ []) ∙ rw (h, same_itself e)

-- and the others stay
among_kept : (events : List Event) (e new : Event) → is_among e events ≡ true
    → is_among e (with_event events new) ≡ true
among_kept events e new h = by (is_among new events)
  where
    by : (b : Bool) → is_among e (cond b events (events ++ new ∷ [])) ≡ true
    by true = h
    by false = list_any-append (λ x. same_event x e) events (new ∷ []) ∙ rw h

-- also those of any rows
among_more : (rows : List Row) (events : List Event) (e : Event) → is_among e events ≡ true
    → is_among e (fold (λ es row. with_event es (event_of row)) events rows) ≡ true
among_more [] events e h = h
among_more (row ∷ rows) events e h = among_more rows (with_event events (event_of row)) e
    (among_kept events e (event_of row) h)

-- the event of a row is among the rows' events
among_rows : (rows : List Row) (events : List Event) (state : ℕ) (e : Event) → is_legal rows state e ≡ true
    → is_among e (fold (λ es row. with_event es (event_of row)) events rows) ≡ true
among_rows [] events state e h = absurd (cc)
among_rows (row ∷ rows) events state e h =
    by (is_row_of state e row) refl (sym (legal_cons row rows state e) ∙ h)
    (among_rows rows (with_event events (event_of row)) state e)
  where
    by : (b : Bool) → is_row_of state e row ≡ b → (b || is_legal rows state e) ≡ true
        → (is_legal rows state e ≡ true → is_among e
        (fold (λ es r. with_event es (event_of r)) (with_event events (event_of row)) rows) ≡ true)
        → is_among e (fold (λ es r. with_event es (event_of r)) (with_event events (event_of row)) rows) ≡ true
    by true is h more =
        let same : event_of row ≡ e = same_is (event_of row) e
        (and_parts (row.state == state) (same_event (event_of row) e) is).1 in
        among_more rows (with_event events (event_of row)) e
        (subst (λ x. is_among x (with_event events (event_of row)) ≡ true) same (among_with events (event_of row)))
    by false is h more = more h

-- a legal event is among the rows' events
pub legal_among : (rows : List Row) (state : ℕ) (e : Event) → is_legal rows state e ≡ true
    → is_among e (events_of rows) ≡ true
legal_among rows state e h = among_rows rows [] state e h

-- what is among events has a number
number_among : (events : List Event) (e : Event) → is_among e events ≡ true → event_number events e ≡ None → ⊥
number_among events e h none = absurd (let t : true ≡ false = sym h
    ∙ position_none (λ x. same_event x e) events none in let never : ⊥ = cc in never)

-- a number is that of its event
pub number_is : (events : List Event) (e : Event) (number : ℕ) → event_number events e ≡ Some number
    → slice_get events number ≡ Some e
number_is events e number h =
    let at : (number < length events) × (same_event (get_or events number e) e ≡ true)
    × ((k : ℕ) → k < number → same_event (get_or events k e) e ≡ false) =
    position-Some (λ x. same_event x e) events number e h in
    slice_get-get_or events number e at.0 ∙ ap Some (same_is (get_or events number e) e at.1)

-- a legal event has a number
pub legal_numbered : (rows : List Row) (state : ℕ) (e : Event) → IsSome (next_in rows state e)
    → event_number (events_of rows) e ≡ None → ⊥
legal_numbered rows state e h = number_among (events_of rows) e (among_rows rows [] state e h)

-- the event that is answered is the one with the lowest legal response
pub first_is_lowest : (rows : List Row) (state inv resp number : ℕ) → lowest_in rows state inv ≡ Some resp
    → event_number (events_of rows) (event inv resp) ≡ Some number → IsLowest rows state inv number
first_is_lowest rows state inv resp number lowest numbered = record {
  resp = resp;
  numbered = number_is (events_of rows) (event inv resp) number numbered;
  legal = lowest_legal rows state inv resp lowest;
  lowest = none_lower rows state inv resp lowest;
}

-- the same of an answer that may be none
pub found_is_lowest : (rows : List Row) (state inv resp : ℕ) (found : Option ℕ) → lowest_in rows state inv ≡ Some resp
    → found ≡ event_number (events_of rows) (event inv resp)
    → IfSome found (λ number. IsLowest rows state inv number)
found_is_lowest rows state inv resp None lowest numbered = tt
found_is_lowest rows state inv resp (Some number) lowest numbered =
    first_is_lowest rows state inv resp number lowest (sym numbered)

-- an invocation with a lowest legal response has a first event
pub first_some : (rows : List Row) (state inv resp : ℕ) → lowest_in rows state inv ≡ Some resp
    → event_number (events_of rows) (event inv resp) ≡ None → ⊥
first_some rows state inv resp lowest = legal_numbered rows state (event inv resp)
    (lowest_legal rows state inv resp lowest)

-- the same, by what the scan for the lowest response answered
first_found : (rows : List Row) (state inv number : ℕ) → (o : Option ℕ) → lowest_in rows state inv ≡ o
    → option_and_then (λ resp. event_number (events_of rows) (event inv resp)) o ≡ Some number
    → IsLowest rows state inv number
first_found rows state inv number None lowest found = absurd (let never : ⊥ = cc in never)
first_found rows state inv number (Some resp) lowest found = first_is_lowest rows state inv resp number lowest found

-- what `first_of` answers is the event with the lowest legal response
pub first_lowest : (rows : List Row) (state inv number : ℕ) → first_of rows state inv ≡ Some number
    → IsLowest rows state inv number
first_lowest rows state inv number = first_found rows state inv number (lowest_in rows state inv) refl

-- it is the number of an event
pub first_is_an_event : (rows : List Row) (state inv number : ℕ) → first_of rows state inv ≡ Some number
    → number < length (events_of rows)
first_is_an_event rows state inv number found =
    let l : IsLowest rows state inv number = first_lowest rows state inv number found in
    slice_get_within (events_of rows) number (event inv l.resp) l.numbered

-- which leads on from that state
pub first_leads_on : (rows : List Row) (state inv number : ℕ) → first_of rows state inv ≡ Some number
    → IsSome (step_of rows state number)
first_leads_on rows state inv number found =
    let l : IsLowest rows state inv number = first_lowest rows state inv number found in
    rw l.numbered l.legal
