-- A site in form, and a move of one: what it becomes, sends and writes.
use Rattle.std.proofs.Common.{ℕ}
use Rattle.std.specs.Prelude.{option_to_list}
use Rattle.std.specs.List.{AllByRecursion as Every}
use Rattle.qc_record.specs.Vocabulary.{IsWithin}
use Rattle.qc_site.specs.Vocabulary.{SiteMove, SiteState}
use Rattle.laws_bounds.proofs.Forms.{LineInForm, PromiseInForm, SendsInForm, WriteInForm}
use Rattle.laws_bounds.proofs.HeldInForm.{HeldInForm}

pub record SiteInForm (s : SiteState) : Type 0 where
  pub epoch : IsWithin 1 8 s.epoch
  pub began : Every LineInForm s.began
  pub log : Every LineInForm s.log
  pub arrived : Every LineInForm s.arrived
  pub held : Every HeldInForm s.held
  pub prepared : Every PromiseInForm s.prepared

pub record SiteMoveInForm (m : SiteMove) : Type 0 where
  pub site : SiteInForm m.site
  pub sends : SendsInForm m.turn.sends
  pub failed_sends : SendsInForm m.turn.failed_sends
  pub write : Every WriteInForm (option_to_list m.turn.write)
