-- Each line of a load can be written.
use Rattle.std.proofs.Common.{◌<◌, ◌%◌, ◌==◌, ℕ, zero, suc, refl, arith, Bool, true, false, codes, if◌then◌else◌}
use Rattle.std.proofs.Math.Nat.{mod-lt}
use Rattle.qc_gen.specs.Vocabulary.{client_of, lines_from, next_state, write_of}
use Rattle.qc_script.specs.Vocabulary.{AreWritable, HasFewDigits, IsWritableName, IsWritableVerb}
use Rattle.qc_script.specs.declared.line.Verb.TheVariants.{Do}

write_is_writable : (state : ℕ) → IsWritableName (write_of state)
write_is_writable state = go (state % 2 == 1)
  where
    go : (bit : Bool) → IsWritableName (if bit then codes "W1" else codes "W0")
    go true = (refl, omega arith)
    go false = (refl, omega arith)

client_is_writable : (number : ℕ) → HasFewDigits (client_of number)
client_is_writable number = let below : client_of number < 3 = mod-lt number (omega arith) in omega arith

pub are_writable : (count number state : ℕ) → AreWritable (lines_from count number state)
are_writable zero number state = tt
are_writable (suc count) number state =
    let client = client_is_writable number in
    let write : IsWritableVerb (Do (codes "x") (write_of (next_state state))) =
    ((refl, omega arith), write_is_writable (next_state state)) in
    let read : IsWritableVerb (Do (codes "x") (codes "R")) = ((refl, omega arith), (refl, omega arith)) in
    let more = are_writable count (suc number) (next_state state) in
    (tt, ((client, tt), ((client, write), ((client, read), ((client, tt), more)))))
