-- The section of sites: one line for each, all of it read off the site's own steps.
use Rattle.std.specs.Prelude.{[], ℕ, ◌==◌, Bool, true, false, if◌then◌else◌, List, ◌++◌, codes, decimal, flat_map, fold}
use Rattle.std.specs.Prelude.{length}
use Rattle.std.specs.Option.{option_map_or}
use Rattle.std.specs.List.{range_with_len}
use Rattle.qc_decl.specs.declared.declaration.Declaration.{Declaration}
use Rattle.qc_msg.specs.declared.step.Step.{Step}
use Rattle.qc_msg.specs.Vocabulary.{Deed, Entry, deeds, own, Fallen, fell_in, rose_in}
use Rattle.qc_promise.specs.Vocabulary.{epoch_shown, held_shown, life_shown, log_shown}
use Rattle.qc_text.specs.Parts.{site_text}
use Rattle.qc_msg.specs.declared.record.Record.{Record}

-- whether an actor is down: it fell, and hasn't risen since; one whose journal is damaged doesn't rise

abbrev pub down_after : Bool → Step → Bool
down_after down step =
    option_map_or (λ (x : Fallen). true) (fell_in step) (option_map_or (λ (x : List Record). false) (rose_in step) down)

-- after an entry of anybody
abbrev pub down_by : Bool → ℕ → Entry → Bool
down_by down a e = if e.actor == a then down_after down e.step else down

abbrev pub is_down : ℕ → List Entry → Bool
is_down a h = fold down_after false (own a h)

-- a site that is up: its life, its epoch, the lines of its log, and the transactions of which it holds locks or lines
abbrev pub standing_text : ℕ → ℕ → ℕ → ℕ → List ℕ
standing_text life epoch lines held =
    codes " life " ++ (decimal life ++ (codes " epoch " ++ (decimal epoch
    ++ (codes " lines " ++ (decimal lines ++ (codes " held " ++ decimal held))))))

-- the same, as its deeds show it
abbrev pub shown_text : List Deed → List ℕ
shown_text ds =
    standing_text (life_shown ds) (epoch_shown ds) (length (log_shown ds)) (length (held_shown ds))

abbrev pub site_line : List Entry → ℕ → List ℕ
site_line h k =
    site_text k ++ ((if is_down k h then codes " down" else shown_text (deeds k [] h)) ++ codes "\n")

abbrev pub sites_text : Declaration → List Entry → List ℕ
sites_text decl h = codes "sites\n" ++ flat_map (site_line h) (range_with_len 0 decl.sites)
