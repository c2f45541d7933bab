use Rattle.std.proofs.Common.{rules, ◌≡◌, ℕ, Bool, length, take, drop, ap, ◌∙◌, List, if◌then◌else◌}
use Rattle.std.proofs.Math.Seq.{take-length}
use Rattle.qc_entry.specs.Marks.{is_current, lines_told}
use Rattle.qc_entry.specs.Vocabulary.{log_of, of_object}
use Rattle.qc_entry.specs.Places.{picked, places_at, places_from}
use Rattle.qc_entry.proofs.Placed.{places-count, told-places}
use Rattle.qc_entry.proofs.arrivals.Arrivals.tell.Goals as goal

-- the places that are looked up are those of the object in all lines
all_placed : (c : goal.After-drop-lines-2)
    → c.places_of-places.result.now ≡ places_from c.args.object 0 c.args.self.now
all_placed c =
    let whole : c.as_slice.result.now ≡ c.args.self.now = search rules in
    let all : c.place.new.placed ≡ length c.as_slice.result.now = search rules in
    let kept : c.as_slice-2.result.now ≡ c.place.new.places.items = search rules in
    c.places_of-places.ensures ∙ ap (λ ps. places_at ps c.args.object) kept
    ∙ c.in_ok-place.ensures.placed.each c.args.object
    ∙ ap (λ (n : ℕ). places_from c.args.object 0 (take n c.as_slice.result.now)) all
    ∙ ap (places_from c.args.object 0) (take-length c.as_slice.result.now ∙ whole)

pub returns-clause-count : goal.returns-clause-count
returns-clause-count c = ap length (all_placed c) ∙ places-count c.args.object 0 c.args.self.now

pub returns-clause-log : goal.returns-clause-log
returns-clause-log c =
    let them = all_placed c in
    let count : length c.places_of-places.result.now ≡ length (of_object c.args.self.now c.args.object) =
    ap length them ∙ places-count c.args.object 0 c.args.self.now in
    let is : c.is_current.result
    ≡ is_current c.args.life c.args.epoch (length (of_object c.args.self.now c.args.object)) c.args.mark =
    c.is_current.ensures ∙ ap (λ n. is_current c.args.life c.args.epoch n c.args.mark) count in
    let rest : c.places_told-rest.result.now
    ≡ (if c.is_current.result then drop c.args.mark.count (places_from c.args.object 0 c.args.self.now)
    else places_from c.args.object 0 c.args.self.now) =
    c.places_told-rest.ensures
    ∙ ap (λ (ps : List ℕ). if c.is_current.result then drop c.args.mark.count ps else ps) them in
    let lines : c.in_ok-lines.lines.items ≡ picked c.args.self.now c.places_told-rest.result.now = search rules in
    let log : c.in_ok-of_lines.field-0 ≡ log_of c.in_ok-lines.lines.items = search rules in
    log ∙ ap log_of (lines ∙ ap (picked c.args.self.now) rest)
    ∙ told-places c.args.object c.args.mark.count c.is_current.result c.args.self.now
    ∙ ap (λ (b : Bool). log_of (lines_told b (of_object c.args.self.now c.args.object) c.args.mark.count)) is
