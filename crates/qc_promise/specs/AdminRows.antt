-- The reply that is due to a command of the administrator: that of the first row that applies. And the decision that he
-- is to write, once all that the command asked for is answered or lost.
use Rattle.std.specs.Prelude.{ℕ, ◌+◌, ◌==◌, ◌&&◌, nat_le, if◌then◌else◌, Bool, false, List, [], filter}
use Rattle.std.specs.Prelude.{length, map, Option, Some, None, is_some, option_and_then}
use Rattle.std.specs.List.{list_all}
use Rattle.std.specs.Option.{option_map_or}
use Rattle.qc_plan.specs.Vocabulary.{verdict}
use Rattle.qc_plan.specs.declared.standing.Verdict.{Verdict}
use Rattle.qc_plan.specs.declared.standing.Verdict.TheVariants as verdicts
use Rattle.qc_decl.specs.declared.declaration.Declaration.{Declaration}
use Rattle.qc_decl.specs.Vocabulary.{most_record_bytes}
use Rattle.qc_msg.specs.declared.reply.Half.TheVariants as halves
use Rattle.qc_msg.specs.declared.reply.Reply.{Reply}
use Rattle.qc_msg.specs.declared.reply.Reply.TheVariants as replies
use Rattle.qc_msg.specs.declared.step.Command.{Command}
use Rattle.qc_msg.specs.Vocabulary.{epoch_in, epoch_length, has_installed}
pub use Rattle.qc_msg.specs.Vocabulary.{site_set}
use Rattle.qc_msg.specs.declared.payload.EpochStart.{EpochStart}
use Rattle.qc_promise.specs.AdminAccount.{AdminAccount, AdminRequest, answer_to, decided_epoch, installs}
use Rattle.qc_promise.specs.AdminRounds.{Promised, ToldShut, all_answered, close_round, decision_due, first_doubt}
use Rattle.qc_promise.specs.AdminRounds.{shuts_told}

-- Installs went to all sites, and each is answered or lost: the sites that closed, and those that installed

abbrev pub installed_sites : AdminAccount → List ℕ
installed_sites d =
    map (λ (q : AdminRequest). q.to)
    (filter (λ (q : AdminRequest). option_map_or has_installed (answer_to q) false) (installs d))

abbrev pub moved_row : Declaration → AdminAccount → List ℕ → Option Reply
moved_row decl d closed =
    if (length (installs d) == decl.sites) && list_all (λ (q : AdminRequest). is_some q.taken) (installs d)
    then Some (replies.Moved (site_set closed) (site_set (installed_sites d)))
    else None

abbrev pub closed_sites : AdminAccount → List ℕ
closed_sites d = map (λ (s : ToldShut). s.site) (shuts_told d)

-- the next epoch: who is in doubt is told; what is decided has to fit a record, and is told once it is installed. Where
-- its record isn't written, that is told

abbrev pub fits_record : EpochStart → Bool
fits_record i = nat_le (epoch_length i.lines) most_record_bytes

abbrev pub decided_row : Declaration → AdminAccount → Bool → Option Reply
decided_row decl d unwritten =
    if unwritten then Some replies.Fault
    else (if is_some d.written then moved_row decl d (closed_sites d) else None)

abbrev pub doubt_row : Declaration → AdminAccount → Bool → Option Promised → Option Reply
doubt_row decl d unwritten (Some p) = Some (replies.InDoubt p.tx p.site)
doubt_row decl d unwritten None =
    if fits_record (decision_due d) then decided_row decl d unwritten else Some replies.Fault

abbrev pub close_row : Declaration → AdminAccount → Bool → Verdict → Option Reply
close_row decl d unwritten verdicts.Waiting = None
close_row decl d unwritten verdicts.Met =
    if all_answered d then doubt_row decl d unwritten (first_doubt d) else None
close_row decl d unwritten (verdicts.Closed epoch site) = None
close_row decl d unwritten (verdicts.Clash tx site) = None
close_row decl d unwritten (verdicts.Short got need) = Some (replies.Quorum halves.Close got need)

-- the decided epoch is installed again, and no site has closed for it; the first epoch was never decided
abbrev pub again_row : Declaration → AdminAccount → Option Reply
again_row decl d = if is_some d.decided then moved_row decl d [] else Some (replies.Order (decided_epoch d))

abbrev pub epoch_row : Declaration → AdminAccount → Bool → ℕ → Option Reply
epoch_row decl d unwritten k =
    if k == decided_epoch d then again_row decl d
    else (if k == decided_epoch d + 1 then close_row decl d unwritten (verdict (close_round decl d))
    else Some (replies.Order (decided_epoch d)))

-- nobody asks him for transactions; while he is down he tells so
abbrev pub admin_row : Declaration → AdminAccount → Bool → Command → Option Reply
admin_row decl d unwritten command =
    if d.up then option_and_then (epoch_row decl d unwritten) (epoch_in command) else Some replies.Down

abbrev pub admin_due : Declaration → AdminAccount → Bool → Option Reply
admin_due decl d unwritten = option_and_then (admin_row decl d unwritten) d.command

-- the decision of the running command: nothing is awaited, and nobody in doubt

abbrev pub decided_of : AdminAccount → Option Promised → Option EpochStart
decided_of d (Some p) = None
decided_of d None = if fits_record (decision_due d) then Some (decision_due d) else None

abbrev pub decided_met : AdminAccount → Verdict → Option EpochStart
decided_met d verdicts.Waiting = None
decided_met d verdicts.Met = if all_answered d then decided_of d (first_doubt d) else None
decided_met d (verdicts.Closed epoch site) = None
decided_met d (verdicts.Clash tx site) = None
decided_met d (verdicts.Short got need) = None

abbrev pub decided_for : Declaration → AdminAccount → ℕ → Option EpochStart
decided_for decl d k =
    if k == decided_epoch d + 1 then decided_met d (verdict (close_round decl d)) else None

abbrev pub decide_due : Declaration → AdminAccount → Option EpochStart
decide_due decl d =
    if d.up then option_and_then (decided_for decl d) (option_and_then epoch_in d.command) else None
