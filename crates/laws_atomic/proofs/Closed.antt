-- With a line, a site's log and the view of an Append have each committed line of its object before it on which its
-- invocation depends.
use Rattle.std.proofs.Common.{◌≡◌, ℕ, true, List, refl, subst}
use Rattle.qc_stamp.specs.declared.stamp.TxId.{TxId}
use Rattle.qc_list.specs.Vocabulary.{In}
use Rattle.qc_entry.specs.declared.line.Line.{Line}
use Rattle.qc_entry.specs.declared.line.OwnLine.{OwnLine}
use Rattle.qc_decl.specs.declared.declaration.Declaration.{Declaration}
use Rattle.qc_decl.specs.Vocabulary.{IsAccepted, is_site}
use Rattle.qc_msg.specs.declared.message.Envelope.{Envelope}
use Rattle.qc_msg.specs.declared.message.Message.{Message}
use Rattle.qc_msg.specs.declared.message.Message.TheVariants as messages
use Rattle.qc_msg.specs.declared.message.Want.TheVariants.{Append}
use Rattle.theory_onecopy.specs.Vocabulary.{IsClosedLog, IsLogged}
use Rattle.theory_machine.specs.Vocabulary.{OfAppend, OfSite, site_after, state}
use Rattle.theory_machine.proofs.ClaimLaws as claims
use Rattle.laws_refinement.specs.Vocabulary.{Backed, Net, Reaches, Refines, SiteMirrors, own_items}
use Rattle.qc_site.specs.Vocabulary.{known}
use Rattle.laws_refinement.proofs.Refining.{nets_refine}

module _ (decl : Declaration) (accepted : IsAccepted decl) (net : Net) (reached : Reaches decl net) where
  mirrored : Refines decl net
  mirrored = nets_refine decl accepted net reached

  machine_logged : (l : Line) → IsLogged decl net.written l → IsLogged decl (state mirrored.acts).records l
  machine_logged l k = record {
    commit = k.commit;
    listed = mirrored.agrees.records k.commit k.listed;
    stamped = k.stamped;
    named = k.named;
    operation = k.operation;
  }

  pub site_closed : (a : ℕ) → is_site decl a ≡ true → net.up a ≡ true
      → IsClosedLog decl net.written (known (net.sites a))
  site_closed a site up l m among committed same before depends =
      let s : SiteMirrors decl (net.sites a) ((state mirrored.acts).deeds a) ((state mirrored.acts).life a) =
      mirrored.agrees.sites a site up in
      s.log m (claims.logs_are_closed decl accepted mirrored.acts mirrored.run
      (site_after ((state mirrored.acts).deeds a)).volatile (OfSite a refl) l m (s.logged l among)
      (machine_logged m committed) same before depends)

  pub view_closed : (e : Envelope) (tx : TxId) (epoch life object : ℕ) (view : List Line) (own : List OwnLine)
      → In e net.mail → e.message ≡ messages.Request tx epoch life (Append object view own)
      → IsClosedLog decl net.written view
  view_closed e tx epoch life object view own sent is l m among committed same before depends =
      let b : Backed decl (state mirrored.acts) net.mail e.from e.to
      (messages.Request tx epoch life (Append object view own)) =
      subst (λ (x : Message). Backed decl (state mirrored.acts) net.mail e.from e.to x) is
      (mirrored.agrees.mail e sent) in
      claims.logs_are_closed decl accepted mirrored.acts mirrored.run view
      (OfAppend (record { tx = tx; items = own_items own; view = view }) b.3.0 refl) l m among
      (machine_logged m committed) same before depends
