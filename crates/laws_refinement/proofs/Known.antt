-- The lines that a site knows, and those that its records give.
use Rattle.std.proofs.Common.{◌⊎◌, inl, inr, List, subst}
use Rattle.qc_list.specs.Vocabulary.{In}
use Rattle.qc_entry.specs.declared.line.Line.{Line}
use Rattle.qc_entry.specs.Vocabulary.{without}
use Rattle.qc_entry.proofs.Union.{in_either, in_first, in_second}
use Rattle.qc_entry.proofs.Without.{in_lacked, in_without}
use Rattle.qc_site.specs.Vocabulary.{SiteState, known}
use Rattle.qc_recover.specs.Vocabulary.{Kept}
use Rattle.laws_refinement.specs.Vocabulary.{IsKeptBy, kept_lines}

-- what the site knows its records give, or it is to be promised
pub unrecorded : (s : SiteState) (k : Kept) → IsKeptBy s k → (l : Line) → In l (known s)
    → In l (kept_lines k) ⊎ In l (without s.log s.recorded)
unrecorded s k alike l among = elim (in_either l s.began s.log among) [
  | inl first ↦ inl (in_first l k.began k.lines (subst (λ (ls : List Line). In l ls) alike.began first))
  | inr since ↦ elim (in_without s.log s.recorded l since) [
    | inl new ↦ inr new
    | inr given ↦ inl (in_second l k.began k.lines (subst (λ (ls : List Line). In l ls) alike.recorded given))
  ]
]

-- and what is to be promised it knows
pub promised_known : (s : SiteState) (l : Line) → In l (without s.log s.recorded) → In l (known s)
promised_known s l among = in_second l s.began s.log (in_lacked l s.log s.recorded among)
