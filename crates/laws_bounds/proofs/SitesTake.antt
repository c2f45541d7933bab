-- For each input a site in form, and in order, stays so.
use Rattle.std.proofs.Common.{◌≤◌}
use Rattle.qc_decl.specs.Vocabulary.{most_clients}
use Rattle.qc_decl.specs.declared.declaration.Declaration.{Declaration}
use Rattle.qc_entry.specs.Vocabulary.{IsAscending}
use Rattle.qc_msg.specs.declared.message.Message.{Message}
use Rattle.qc_msg.specs.declared.message.Message.TheVariants as messages
use Rattle.qc_msg.specs.declared.message.Want.{Want}
use Rattle.qc_msg.specs.declared.message.Want.TheVariants.{Append, Prepare, Read}
use Rattle.qc_msg.specs.declared.step.Input.{Input}
use Rattle.qc_msg.specs.declared.step.Input.TheVariants as inputs
use Rattle.qc_site.specs.Vocabulary.{IsMessageSorted, IsSiteSorted, SiteState, passed, site_takes, view_in}
use Rattle.qc_site.proofs.Sorted.{stays_sorted}
use Rattle.laws_bounds.proofs.Forms.{TakenInForm, MessageInForm, WantInForm}
use Rattle.laws_bounds.proofs.SitesInForm.{SiteInForm, SiteMoveInForm, at_form, silent}

pub record SiteStands (s : SiteState) : Type 0 where
  pub form : SiteInForm s
  pub sorted : IsSiteSorted s

view_ascends : (want : Want) → WantInForm want → IsAscending (view_in want)
view_ascends (Read read) here = tt
view_ascends (Append object view own) here = here.0.ascend
view_ascends Prepare here = tt

message_sorted : (message : Message) → MessageInForm message → IsMessageSorted message
message_sorted (messages.Request tx epoch life want) here = view_ascends want here.1
message_sorted (messages.Answer to answer) here = tt
message_sorted (messages.Decision tx verdict) here = tt
message_sorted (messages.Inquiry tx) here = tt
message_sorted (messages.Ask tx) here = tt
message_sorted (messages.Close epoch) here = tt
message_sorted (messages.Install start) here = here.lines_are.ascend

module _ (decl : Declaration) (few : decl.clients ≤ most_clients) where
  pub site_takes_form : (s : SiteState) (g : Input) → SiteStands s → TakenInForm g
      → SiteMoveInForm (site_takes decl s g)
  site_takes_form s (inputs.Called command) w here = silent decl s 0 0 w.form
  site_takes_form s (inputs.Got e) w here =
      at_form decl (passed s e.message) e.from e.number
      (record {
        epoch = w.form.epoch;
        began = w.form.began;
        log = w.form.log;
        arrived = w.form.arrived;
        held = w.form.held;
        prepared = w.form.prepared;
      })
      (record {
        began = w.sorted.began;
        log = w.sorted.log;
        recorded = w.sorted.recorded;
        held = w.sorted.held;
        prepared = w.sorted.prepared;
      })
      few e.message here
  site_takes_form s (inputs.Lost number) w here = silent decl s 0 0 w.form

  pub site_takes_sorted : (s : SiteState) (g : Input) → SiteStands s → TakenInForm g
      → IsSiteSorted (site_takes decl s g).site
  site_takes_sorted s (inputs.Called command) w here = w.sorted
  site_takes_sorted s (inputs.Got e) w here =
      stays_sorted decl s e.from e.number e.message w.sorted (message_sorted e.message here)
  site_takes_sorted s (inputs.Lost number) w here = w.sorted
