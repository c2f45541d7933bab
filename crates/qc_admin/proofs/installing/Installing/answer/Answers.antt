use Rattle.std.proofs.Common.{◌≡◌, ◌++◌, ◌∷◌, [], Some, sym, ap, ◌∙◌, arith}
use Rattle.qc_epoch.specs.Vocabulary.{site_set}
use Rattle.qc_msg.specs.Vocabulary.{site_called}
use Rattle.qc_admin.specs.declared.installing.Installing.{Installing}
use Rattle.qc_admin.proofs.Bits.{last_bit, taken_bit}
use Rattle.qc_admin.proofs.installing.Installing.answer.Goals as goal
use Rattle.qc_admin.proofs.installing.Installing.answer.Goals.{then-is_installed+in_ok-push, else-is_installed}

pub site_set-requires-2 : goal.site_set-requires-2
site_set-requires-2 c =
    let old = c.args.self.now in
    let called : site_called old.calls c.args.number ≡ Some c.in-Some.site = sym c.site_called.ensures ∙ c.in-Some.is in
    let bit = taken_bit c.args.number c.in-Some.site old.calls called in
    let last = last_bit c.in-Some.site old.installed in
    let room = c.requires.told in
    elim c.if-is_installed.branch [
      | then-is_installed+in_ok-push w ↦
          let is : c.if-is_installed.self.installed ≡ old.installed ++ c.in-Some.site ∷ [] =
          ap (λ (i : Installing). i.installed) w.self-is ∙ w.in_ok-push.ensures.ok in
          let sum : site_set c.if-is_installed.self.installed ≡ site_set (old.installed ++ c.in-Some.site ∷ []) =
          ap site_set is in
          omega (arith, sum, last, bit, room)
      | else-is_installed w ↦
          let is : c.if-is_installed.self.installed ≡ old.installed = ap (λ (i : Installing). i.installed) w.self-is in
          let sum : site_set c.if-is_installed.self.installed ≡ site_set old.installed = ap site_set is in
          omega (arith, sum, bit, room)
    ]
