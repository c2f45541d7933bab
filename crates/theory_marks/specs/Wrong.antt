-- What goes wrong where a rule is left out: each by a small run that is computed.
use Rattle.std.specs.Prelude.{ℕ, List, [], ◌∷◌}
use Rattle.qc_entry.specs.declared.line.Line.{Line}
use Rattle.qc_entry.specs.Vocabulary.{without}
use Rattle.theory_marks.specs.Marks.{Arrivals, KnownLog, learned, mark_of, nothing_known, told, with_arrivals}

-- a line of the object 0, by its clock
abbrev pub line : ℕ → Line
line clock = record {
  stamp = record { clock = clock; client = 0 };
  tx = record { client = 0; life = 1; number = clock };
  op = 1;
  object = 0;
  event = 0;
}

abbrev pub site : ℕ → List Line → Arrivals
site life arrived = record { life = life; epoch = 1; arrived = arrived }

-- a client learns what a site answers to a Read that carried what was known then
abbrev pub learns : KnownLog → KnownLog → Arrivals → KnownLog
learns known asked s = learned known s.life s.epoch (mark_of s 0).count (told s asked.mark 0)

-- Two Reads of one client at one site are open at once, and the marks are compared as an answer counts. Both Reads
-- carry the mark of life 1 with one line. The first is answered in life 1, with the second line alone; the other one
-- after a fall, in life 2, with all. The second answer comes first: then the first one stands in the place of all that
-- is known.

abbrev pub one_known : KnownLog
one_known = learns nothing_known nothing_known (site 1 (line 1 ∷ []))

abbrev pub of_life_one : Arrivals
of_life_one = site 1 (line 1 ∷ line 2 ∷ [])

abbrev pub of_life_two : Arrivals
of_life_two = site 2 (line 1 ∷ [])

abbrev pub overlapping : KnownLog
overlapping = learns (learns one_known one_known of_life_two) one_known of_life_one

-- Where marks don't name the life: the site had lines 1 and 2, lost 2 in a fall, and then got 3.
abbrev pub same_life : KnownLog
same_life =
    learns (learns nothing_known nothing_known (site 1 (line 1 ∷ line 2 ∷ [])))
    (learns nothing_known nothing_known (site 1 (line 1 ∷ line 2 ∷ []))) (site 1 (line 1 ∷ line 3 ∷ []))

-- Where arrived lines are counted in line order: line 1 comes after lines 2 and 3, and the answer is the last line of
-- the three.
abbrev pub in_line_order : KnownLog
in_line_order =
    learns (learns nothing_known nothing_known (site 1 (line 2 ∷ line 3 ∷ [])))
    (learns nothing_known nothing_known (site 1 (line 2 ∷ line 3 ∷ []))) (site 1 (line 1 ∷ line 2 ∷ line 3 ∷ []))

-- Where an Append may name no life though it is short: the site lost line 1 in a fall, and the line isn't sent.
abbrev pub short_after_a_fall : List Line
short_after_a_fall = with_arrivals [] (without (line 1 ∷ line 2 ∷ []) (line 1 ∷ []))
