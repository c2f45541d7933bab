use Rattle.std.proofs.Common.{◌≡◌, length, drop}
use Rattle.std.specs.Prelude.{◌==◌}
use Rattle.std.specs.List.{slice_split}
use Rattle.qc_accept.specs.Vocabulary.{events_in, read_each, words_in}
use Rattle.qc_accept.proofs.Outs.{with_event_of}
use Rattle.qc_accept.proofs.certificates.events_out.Given as goal

abbrev pub invariant-loop-part : goal.invariant-loop-part
invariant-loop-part l =
    read_each (with_event_of (words_in l.words) (events_in l.events)) 0 (slice_split (λ b. b == 44) l.fn.text)
    ≡ read_each (with_event_of (words_in l.words) (events_in l.events)) l.out
    (drop (length l.yielded) (slice_split (λ b. b == 44) l.fn.text))
