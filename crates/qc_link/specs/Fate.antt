-- What becomes of a message as it is sent.
use Rattle.std.specs.Prelude.{ℕ, ◌==◌, ◌&&◌, Bool, true, if◌then◌else◌, List, [], ◌∷◌, Option, Some, None}
use Rattle.qc_link.specs.Cuts.{is_cut}
use Rattle.qc_link.specs.declared.plan.Link.{Link}
use Rattle.qc_link.specs.declared.rule.Fate.{Fate}
use Rattle.qc_link.specs.declared.rule.Fate.TheVariants as fates
use Rattle.qc_link.specs.declared.rule.Rule.{Rule}
use Rattle.qc_link.specs.declared.rule.Rule.TheVariants as rules

-- the fate that a rule gives
abbrev pub fate_of : Rule → Fate
fate_of rules.Drop = fates.Drop
fate_of rules.Twice = fates.Twice
fate_of rules.Late = fates.Late
fate_of rules.Again = fates.Again

-- what a rule names, none standing for all numbers, matches a number
abbrev pub matches : Option ℕ → ℕ → Bool
matches None n = true
matches (Some m) n = n == m

-- whether a rule is for a message with this sender, receiver and ordinal
abbrev pub is_for : ℕ → ℕ → ℕ → Link → Bool
is_for from to ordinal link = (matches link.from from && matches link.to to) && matches link.ordinal ordinal

-- the first rule that is for the message decides; it passes where there is none
abbrev pub by_rules : List Link → ℕ → ℕ → ℕ → Fate
by_rules [] from to ordinal = fates.Pass
by_rules (link ∷ links) from to ordinal =
    if is_for from to ordinal link then fate_of link.rule else by_rules links from to ordinal

-- between actors that are cut from each other a message is dropped
abbrev pub fate : List Link → List Bool → ℕ → ℕ → ℕ → Fate
fate links cuts from to ordinal = if is_cut cuts from to then fates.Drop else by_rules links from to ordinal
