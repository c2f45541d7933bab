-- The lines that a site knows: those that its epoch began with and those since, and more of them.
use Rattle.std.proofs.Common.{◌⊎◌, inl, inr, List}
use Rattle.qc_list.specs.Vocabulary.{In}
use Rattle.qc_entry.specs.declared.line.Line.{Line}
use Rattle.qc_entry.specs.Vocabulary.{IsAscending, union, without}
use Rattle.qc_entry.proofs.Union.{ascending-union, in_either, in_first, in_second}
use Rattle.qc_entry.proofs.Without.{in_lacked, in_without}
use Rattle.qc_site.proofs.Sorted.{ascending-without}

-- a line is known where the epoch began with it, or it was learned since

-- more lines since

pub more_in : (l : Line) (began log more : List Line) → In l (union began log) ⊎ In l more
    → In l (union began (union log more))
more_in l began log more (inl old) = elim (in_either l began log old) [
  | inl first ↦ in_first l began (union log more) first
  | inr since ↦ in_second l began (union log more) (in_first l log more since)
]
more_in l began log more (inr new) = in_second l began (union log more) (in_second l log more new)

pub more_from : (l : Line) (began log more : List Line) → In l (union began (union log more))
    → In l (union began log) ⊎ In l more
more_from l began log more among = elim (in_either l began (union log more) among) [
  | inl first ↦ inl (in_first l began log first)
  | inr since ↦ elim (in_either l log more since) [ inl old ↦ inl (in_second l began log old) | inr new ↦ inr new ]
]

-- with these lines learned, just they and those that were known are

pub learned_in : (l : Line) (began log lines : List Line) → In l (union began log) ⊎ In l lines
    → In l (union began (union log (without lines began)))
learned_in l began log lines (inl old) = more_in l began log (without lines began) (inl old)
learned_in l began log lines (inr new) = elim (in_without lines began l new) [
  | inl stays ↦ more_in l began log (without lines began) (inr stays)
  | inr first ↦ in_first l began (union log (without lines began)) first
]

pub learned_from : (l : Line) (began log lines : List Line) → In l (union began (union log (without lines began)))
    → In l (union began log) ⊎ In l lines
learned_from l began log lines among = elim (more_from l began log (without lines began) among) [
  | inl old ↦ inl old
  | inr new ↦ inr (in_lacked l lines began new)
]

pub learned_ascends : (began log lines : List Line) → IsAscending log → IsAscending lines
    → IsAscending (union log (without lines began))
learned_ascends began log lines up ascends =
    ascending-union log (without lines began) up (ascending-without lines began ascends)

-- all known lines ascend
pub known_ascends : (began log : List Line) → IsAscending began × IsAscending log → IsAscending (union began log)
known_ascends began log sorted = ascending-union began log sorted.0 sorted.1
