-- What a site's answer to a Close tells, after what other sites told.
use Rattle.std.specs.Prelude.{ℕ, List, ◌++◌, Option, Some, None}
use Rattle.qc_msg.specs.declared.message.Answer.{Answer}
use Rattle.qc_msg.specs.declared.message.Answer.TheVariants as answers
use Rattle.qc_epoch.specs.Vocabulary.{ShutSite, shut_list}

abbrev pub shut_in : ℕ → Option Answer → Option ShutSite
shut_in site None = None
shut_in site (Some (answers.Granted grant)) = None
shut_in site (Some (answers.Clash holder inv event)) = None
shut_in site (Some (answers.Closed epoch)) = None
shut_in site (Some (answers.Behind epoch)) = None
shut_in site (Some (answers.Restarted life)) = None
shut_in site (Some answers.Stale) = None
shut_in site (Some answers.Fault) = None
shut_in site (Some (answers.Yes clock)) = None
shut_in site (Some (answers.Shut snapshot)) =
    Some (record { site = site; clock = snapshot.clock; log = snapshot.log; prepared = snapshot.prepared })
shut_in site (Some answers.Installed) = None
shut_in site (Some (answers.Answered verdict)) = None

abbrev pub with_last : List ShutSite → Option ShutSite → List ShutSite
with_last shuts last = shuts ++ shut_list last
