-- So each run of a script is a net's, and what every net keeps, every run keeps.
use Rattle.std.proofs.Common.{◌≡◌, ℕ, Bool, true, false, List, [], Some, slice_get, sym, subst}
use Rattle.qc_list.specs.Vocabulary.{In}
use Rattle.qc_entry.specs.declared.line.Line.{Line}
use Rattle.qc_entry.specs.declared.line.OwnLine.{OwnLine}
use Rattle.qc_entry.specs.declared.record.Commit.{Commit as CommitRecord}
use Rattle.qc_core.specs.Vocabulary.{IsLawful}
use Rattle.qc_decl.specs.Vocabulary.{IsAccepted, is_site}
use Rattle.qc_decl.specs.declared.declaration.Declaration.{Declaration}
use Rattle.qc_msg.specs.declared.message.Envelope.{Envelope}
use Rattle.qc_msg.specs.declared.message.Message.TheVariants.{Decision, Request}
use Rattle.qc_msg.specs.declared.message.Outcome.{Outcome}
use Rattle.qc_msg.specs.declared.message.Want.TheVariants.{Append}
use Rattle.qc_msg.specs.Vocabulary.{Entry, deeds, mail, written}
use Rattle.theory_onecopy.specs.Vocabulary.{AreApart, IsClosedLog, IsLogged, OneCopy, sorted}
use Rattle.qc_script.specs.Vocabulary.{IsScriptFor, Runs}
use Rattle.qc_script.specs.declared.script.Script.{Script}
use Rattle.qc_site.specs.Vocabulary.{SiteState, known, site_after}
use Rattle.qc_stamp.specs.declared.stamp.TxId.{TxId}
use Rattle.laws_refinement.specs.Vocabulary.{IsTrueVerdict, lines_in}
use Rattle.laws_refinement.proofs.NetLaws as nets
use Rattle.laws_atomic.specs.Vocabulary.{IsReached}
use Rattle.laws_atomic.proofs.Closed as closed_logs
use Rattle.laws_atomic.proofs.Calm.{all_up, is_reached}
use Rattle.laws_atomic.proofs.RunsStand.{runs_stand}
use Rattle.laws_atomic.proofs.Stood.{Stood}

module _ (decl : Declaration) (script : Script) (h : List Entry) (open_inputs : List Bool) (accepted : IsAccepted decl)
    (sound : IsScriptFor decl script) (run : Runs (IsLawful decl) decl script h open_inputs) where
  stood : Stood decl h open_inputs
  stood = runs_stand decl script accepted sound h open_inputs run

  pub runs_are_nets : IsReached decl h open_inputs
  runs_are_nets = record {
    net = stood.net;
    reached = is_reached decl stood.net stood.calm;
    mail_is = stood.mail_is;
    written_is = stood.written_is;
    sites_are = λ a site closed. (stood.sites_are a site).closed closed;
    clients_are = λ a client closed. (stood.clients_are a client).closed closed;
  }

  pub one_copy : OneCopy decl (sorted (written h))
  one_copy = subst (λ (cs : List CommitRecord). OneCopy decl (sorted cs)) runs_are_nets.written_is
      (nets.nets_are_one_copy decl accepted runs_are_nets.net runs_are_nets.reached)

  pub apart : AreApart (written h)
  apart = subst AreApart runs_are_nets.written_is (nets.apart decl accepted runs_are_nets.net runs_are_nets.reached)

  pub site_lines : (a : ℕ) (line : Line) → is_site decl a ≡ true → slice_get open_inputs a ≡ Some false
      → In line (known (site_after decl a (deeds a [] h)).site) → IsLogged decl (written h) line
  site_lines a line site closed among =
      subst (λ (cs : List CommitRecord). IsLogged decl cs line) stood.written_is
      (nets.site_lines decl accepted stood.net (is_reached decl stood.net stood.calm) a line site
      (all_up decl stood.net stood.calm a) (subst (λ (s : SiteState). In line (known s))
      (sym ((stood.sites_are a site).closed closed)) among))

  pub message_lines : (e : Envelope) (line : Line) → In e (mail h) → In line (lines_in e.message)
      → IsLogged decl (written h) line
  message_lines e line sent among =
      subst (λ (cs : List CommitRecord). IsLogged decl cs line) runs_are_nets.written_is
      (nets.message_lines decl accepted runs_are_nets.net runs_are_nets.reached e line
      (subst (λ (ms : List Envelope). In e ms) (sym runs_are_nets.mail_is) sent) among)

  pub decisions_tell_the_records : (e : Envelope) (tx : TxId) (verdict : Outcome) → In e (mail h)
      → e.message ≡ Decision tx verdict → IsTrueVerdict (written h) tx verdict
  decisions_tell_the_records e tx verdict sent is =
      subst (λ (cs : List CommitRecord). IsTrueVerdict cs tx verdict) runs_are_nets.written_is
      (nets.decisions_agree_with_records decl accepted runs_are_nets.net runs_are_nets.reached e tx verdict
      (subst (λ (ms : List Envelope). In e ms) (sym runs_are_nets.mail_is) sent) is)

  pub site_closed : (a : ℕ) → is_site decl a ≡ true → slice_get open_inputs a ≡ Some false
      → IsClosedLog decl (written h) (known (site_after decl a (deeds a [] h)).site)
  site_closed a site closed =
      subst (λ (cs : List CommitRecord). IsClosedLog decl cs (known (site_after decl a (deeds a [] h)).site))
      stood.written_is
      (subst (λ (s : SiteState). IsClosedLog decl stood.net.written (known s)) ((stood.sites_are a site).closed closed)
      (closed_logs.site_closed decl accepted stood.net (is_reached decl stood.net stood.calm) a site
      (all_up decl stood.net stood.calm a)))

  pub view_closed : (e : Envelope) (tx : TxId) (epoch life object : ℕ) (view : List Line) (own : List OwnLine)
      → In e (mail h) → e.message ≡ Request tx epoch life (Append object view own) → IsClosedLog decl (written h) view
  view_closed e tx epoch life object view own sent is =
      subst (λ (cs : List CommitRecord). IsClosedLog decl cs view) runs_are_nets.written_is
      (closed_logs.view_closed decl accepted runs_are_nets.net runs_are_nets.reached e tx epoch life object view own
      (subst (λ (ms : List Envelope). In e ms) (sym runs_are_nets.mail_is) sent) is)
