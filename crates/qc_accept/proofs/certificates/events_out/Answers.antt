use Rattle.std.proofs.Common.{◌≡◌, ℕ, ◌≤◌, false, Some, None, codes, length, drop, refl, ap, sym, ◌∙◌, rules, lit<}
use Rattle.std.proofs.Common.{arith}
use Rattle.std.specs.Prelude.{◌==◌}
use Rattle.std.specs.List.{slice_split}
use Rattle.std.specs.Str.{bytes_eq}
use Rattle.std.proofs.lemmas.List.{length_push}
use Rattle.std.proofs.lemmas.Iterator.Splits.{YieldsList-from_str_split}
use Rattle.std.proofs.lemmas.Iterator.Consumers.{YieldsList-turn, YieldsList-end}
use Rattle.qc_accept.specs.Vocabulary.{events_in, read_each, words_in}
use Rattle.qc_accept.proofs.Outs.{with_event_of, joined, no_event, parted}
use Rattle.qc_accept.proofs.Reading.{reads_on, reads_none, reads_all}
use Rattle.qc_accept.proofs.certificates.events_out.Goals as goal

pub loop-part-init : goal.loop-part-init
loop-part-init c = refl

pub returns-in_err-event_number : goal.returns-in_err-event_number
returns-in_err-event_number c =
    let turn = YieldsList-turn (YieldsList-from_str_split {s = c.into_iter-part-iterator.result} 44 c.args.text.now
    (lit< tt) (cc) (cc) (cc))
    c.loop-part.yielded _ c.loop-part.yielded_by _ _ c.in-Some.part c.in-Some.is c.next.ensures.steps in
    let other : bytes_eq c.args.text.now (codes "-") ≡ false = first_of (search rules, cc, grind arith) in
    c.from_residual.ensures
    ∙ sym (parted (words_in c.args.words.now) (events_in c.args.events.now) c.args.text.now other
    ∙ reads_none (with_event_of (words_in c.args.words.now) (events_in c.args.events.now)) c.loop-part.out
    (slice_split (λ b. b == 44) c.args.text.now) (length c.loop-part.yielded) c.in-Some.part.now _
    (record { within = turn.0; at = turn.1 })
    (no_event (words_in c.args.words.now) (events_in c.args.events.now) c.loop-part.out c.in-Some.part.now
    c.in_err-event_number.ensures.number) c.loop-part.invariant)

pub returns-in_err-out : goal.returns-in_err-out
returns-in_err-out c =
    let turn = YieldsList-turn (YieldsList-from_str_split {s = c.into_iter-part-iterator.result} 44 c.args.text.now
    (lit< tt) (cc) (cc) (cc))
    c.loop-part.yielded _ c.loop-part.yielded_by _ _ c.in-Some.part c.in-Some.is c.next.ensures.steps in
    let other : bytes_eq c.args.text.now (codes "-") ≡ false = first_of (search rules, cc, grind arith) in
    c.from_residual-in_err-out.ensures
    ∙ sym (parted (words_in c.args.words.now) (events_in c.args.events.now) c.args.text.now other
    ∙ reads_none (with_event_of (words_in c.args.words.now) (events_in c.args.events.now)) c.loop-part.out
    (slice_split (λ b. b == 44) c.args.text.now) (length c.loop-part.yielded) c.in-Some.part.now _
    (record { within = turn.0; at = turn.1 })
    (joined (words_in c.args.words.now) (events_in c.args.events.now) c.loop-part.out c.in-Some.part.now
    c.in_ok-event_number.field-0 None c.in_ok-event_number.ensures.number c.in_err-out.ensures)
    c.loop-part.invariant)

pub loop-part-preserved : goal.loop-part-preserved
loop-part-preserved c =
    let turn = YieldsList-turn (YieldsList-from_str_split {s = c.into_iter-part-iterator.result} 44 c.args.text.now
    (lit< tt) (cc) (cc) (cc))
    c.loop-part.yielded _ c.loop-part.yielded_by _ _ c.in-Some.part c.in-Some.is c.next.ensures.steps in
    reads_on (with_event_of (words_in c.args.words.now) (events_in c.args.events.now)) c.loop-part.out c.in_ok-out.out
    (slice_split (λ b. b == 44) c.args.text.now) (length c.loop-part.yielded) c.in-Some.part.now _
    (record { within = turn.0; at = turn.1 })
    (joined (words_in c.args.words.now) (events_in c.args.events.now) c.loop-part.out c.in-Some.part.now
    c.in_ok-event_number.field-0 (Some c.in_ok-out.out) c.in_ok-event_number.ensures.number c.in_ok-out.ensures)
    c.loop-part.invariant
    ∙ ap (λ (k : ℕ). read_each (with_event_of (words_in c.args.words.now) (events_in c.args.events.now)) c.in_ok-out.out
    (drop k (slice_split (λ b. b == 44) c.args.text.now)))
    (sym (length_push c.loop-part.yielded c.in-Some.part))

pub returns : goal.returns
returns c =
    let end = YieldsList-end (YieldsList-from_str_split {s = c.into_iter-part-iterator.result} 44 c.args.text.now
    (lit< tt) (cc) (cc) (cc))
    c.loop-part.yielded _ c.loop-part.yielded_by _ _ c.in-None.is c.next.ensures.steps in
    let other : bytes_eq c.args.text.now (codes "-") ≡ false = first_of (search rules, cc, grind arith) in
    let past : length (slice_split (λ b. b == 44) c.args.text.now) ≤ length c.loop-part.yielded =
    omega (arith, end.1) in
    sym (parted (words_in c.args.words.now) (events_in c.args.events.now) c.args.text.now other
    ∙ reads_all (with_event_of (words_in c.args.words.now) (events_in c.args.events.now)) c.loop-part.out
    (slice_split (λ b. b == 44) c.args.text.now) (length c.loop-part.yielded) _ past c.loop-part.invariant)
