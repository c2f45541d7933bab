-- Grants of every net that may come about: a grant's clock has passed its lines, and it answers a request that asked
-- for no promise.
use Rattle.std.proofs.Common.{◌≡◌, ◌≤◌, ℕ, false, refl, subst, arith}
use Rattle.qc_list.specs.Vocabulary.{In}
use Rattle.qc_entry.specs.declared.line.Line.{Line}
use Rattle.qc_decl.specs.Vocabulary.{IsAccepted}
use Rattle.qc_decl.specs.declared.declaration.Declaration.{Declaration}
use Rattle.qc_msg.specs.declared.message.Answer.TheVariants.{Granted}
use Rattle.qc_msg.specs.declared.message.Envelope.{Envelope}
use Rattle.qc_msg.specs.declared.message.Message.{Message}
use Rattle.qc_msg.specs.declared.message.Message.TheVariants.{Answer}
use Rattle.qc_msg.specs.declared.message.Want.{Want}
use Rattle.qc_msg.specs.declared.message.Want.TheVariants.{Read, Append, Prepare}
use Rattle.qc_msg.specs.declared.payload.Grant.{Grant}
use Rattle.qc_promise.specs.Vocabulary.{is_prepare}
use Rattle.theory_machine.specs.Vocabulary.{state}
use Rattle.theory_machine.proofs.Keeps.{laws}
use Rattle.laws_refinement.specs.Vocabulary.{Backed, IsGrantTo, IsGrantable, Net, Reaches, Refines}
use Rattle.laws_refinement.proofs.Refining.{nets_refine}

pub no_promise : (want : Want) → IsGrantable want → is_prepare want ≡ false
no_promise (Read read) asks = refl
no_promise (Append object view own) asks = refl
no_promise Prepare asks = absurd asks

module _ (decl : Declaration) where
  -- a grant is backed
  pub granted : (net : Net) (r : Refines decl net) (e : Envelope) → In e net.mail
      → (to : ℕ) (x : Grant) → e.message ≡ Answer to (Granted x)
      → IsGrantTo decl (state r.acts) net.mail e.from to x
  granted net r e among to x is =
      subst (λ (m : Message). Backed decl (state r.acts) net.mail e.from e.to m) is (r.agrees.mail e among)

  pub lines_passed : (accepted : IsAccepted decl) (net : Net) → Reaches decl net → (e : Envelope) → In e net.mail
      → (to : ℕ) (x : Grant) → e.message ≡ Answer to (Granted x)
      → (l : Line) → In l x.log → l.stamp.clock ≤ x.clock
  lines_passed accepted net reached e among to x is l in_log =
      let r : Refines decl net = nets_refine decl accepted net reached in
      let b : IsGrantTo decl (state r.acts) net.mail e.from to x =
      granted net r e among to x is in
      let low : l.stamp.clock ≤ b.grant.grant.clock =
      ((laws decl r.acts r.run).facts b.grant.grant b.grant.given).passes_lines l (b.grant.lines l in_log) in
      let same : b.grant.grant.clock ≡ x.clock = b.grant.clock_is in
      omega arith
