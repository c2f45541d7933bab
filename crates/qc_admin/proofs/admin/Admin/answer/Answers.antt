use Rattle.std.proofs.Common.{◌≡◌, sym, ap, ◌∙◌}
use Rattle.std.specs.Option.{option_copied}
use Rattle.qc_epoch.specs.Vocabulary.{Admin, AdminMove, answered, moved}
use Rattle.qc_epoch.specs.Admin as admins
use Rattle.qc_admin.specs.declared.admin.Admin.TheInside.{Inside}
use Rattle.qc_admin.specs.declared.doing.Doing.TheVariants.{Resting, Closing, Asking, Installing}
use Rattle.qc_admin.specs.declared.next.Next.{Next}
use Rattle.qc_admin.specs.Vocabulary.{asking_of, becomes, closing_of, doing_of, installing_of}
use Rattle.qc_admin.proofs.Moves.{took}
use Rattle.qc_admin.proofs.admin.Admin.answer.Goals as goal
use Rattle.qc_admin.proofs.admin.Admin.answer.Goals.{in-Resting, in-Closing+in_ok-next-in-Closing}
use Rattle.qc_admin.proofs.admin.Admin.answer.Goals.{in-Asking+in_ok-next-in-Asking}
use Rattle.qc_admin.proofs.admin.Admin.answer.Goals.{in-Installing+in_ok-next-in-Installing}

-- the administrator of these parts
abbrev seen : Inside → Admin
seen parts = record { epoch = parts.epoch; decided = parts.decided; doing = doing_of parts.doing }

-- what the calls give, where these are the parts then
after : (parts others : Inside) (next other : Next) (now : AdminMove) → parts ≡ others → next ≡ other
    → becomes (seen parts) (doing_of parts.doing) next ≡ now → becomes (seen others) (doing_of others.doing) other ≡ now
after parts others next other now same goes is =
    ap (λ (x : Inside). becomes (seen x) (doing_of x.doing) other) (sym same)
    ∙ ap (becomes (seen parts) (doing_of parts.doing)) (sym goes) ∙ is

pub returns-clause-ok : goal.returns-clause-ok
returns-clause-ok c =
    let decl = c.args.decl.now in
    let number = c.args.number in
    let answer = option_copied c.args.answer in
    let old : Inside = c.self.inside in
    let now : AdminMove = moved c.turn_to.new.self c.turn_to.result in
    let begins = ap (λ (m : Admin). answered decl m number answer) (sym c.self.view_is) in
    elim c.match-self.branch [
      | in-Resting w ↦
          begins
          ∙ took decl (seen old) number answer admins.Resting admins.Resting w.quiet-next.result now
          (ap doing_of w.in-Resting.is)
          (λ m. ap (becomes m admins.Resting) (sym w.quiet-next.ensures))
          (after c.match-self.self-inside (record old { doing = Resting }) c.match-self.next w.quiet-next.result now
          (w.self-inside-is ∙ ap (λ d. record old { doing = d }) w.in-Resting.is) w.next-is c.turn_to.ensures)
      | in-Closing+in_ok-next-in-Closing w ↦
          begins
          ∙ took decl (seen old) number answer (closing_of w.in-Closing.closing)
          (closing_of w.answer.new.self) w.in_ok-next-in-Closing.next now
          (ap doing_of w.in-Closing.is) w.in_ok-next-in-Closing.ensures.ok
          (after c.match-self.self-inside (record old { doing = Closing w.answer.new.self }) c.match-self.next
          w.in_ok-next-in-Closing.next now
          w.self-inside-is w.next-is c.turn_to.ensures)
      | in-Asking+in_ok-next-in-Asking w ↦
          begins
          ∙ took decl (seen old) number answer (asking_of w.in-Asking.asking)
          (asking_of w.answer-in-Asking.new.self) w.in_ok-next-in-Asking.next now
          (ap doing_of w.in-Asking.is) w.in_ok-next-in-Asking.ensures.ok
          (after c.match-self.self-inside (record old { doing = Asking w.answer-in-Asking.new.self }) c.match-self.next
          w.in_ok-next-in-Asking.next now
          w.self-inside-is w.next-is c.turn_to.ensures)
      | in-Installing+in_ok-next-in-Installing w ↦
          begins
          ∙ took decl (seen old) number answer (installing_of w.in-Installing.installing)
          (installing_of w.answer-in-Installing.new.self) w.in_ok-next-in-Installing.next now
          (ap doing_of w.in-Installing.is) (w.in_ok-next-in-Installing.ensures.ok decl)
          (after c.match-self.self-inside (record old { doing = Installing w.answer-in-Installing.new.self })
          c.match-self.next w.in_ok-next-in-Installing.next now
          w.self-inside-is w.next-is c.turn_to.ensures)
    ]
