-- How many messages there were, in all and from each actor to each. Actors are numbered below the most actors.
use Rattle.std.specs.Prelude.{ℕ, ◌+◌, ◌*◌, List, get_or, replicate, set}
use Rattle.qc_link.specs.Vocabulary.{most_actors}

pub record Tally : Type 0 where
  -- by sender, then by receiver
  pub each : List ℕ
  pub all : ℕ

abbrev pub no_messages : Tally
no_messages = record { each = replicate (most_actors * most_actors) 0; all = 0 }

-- the place of a sender and a receiver
abbrev pub place : ℕ → ℕ → ℕ
place from to = most_actors * from + to

abbrev pub count : Tally → ℕ → ℕ → ℕ
count t from to = get_or t.each (place from to) 0

abbrev pub one_message_more : Tally → ℕ → ℕ → Tally
one_message_more t from to = record { each = set t.each (place from to) (count t from to + 1); all = t.all + 1 }
