-- All that is due in a history: each actor acts by turns, messages reach those whom they were sent to, each deed of a
-- client is due, and so is all that a site posts, and each deed of the administrator.
use Rattle.std.specs.Prelude.{ℕ, ◌<◌, List, []}
use Rattle.qc_decl.specs.Vocabulary.{actors, administrator, client_actor, is_site}
use Rattle.qc_decl.specs.declared.declaration.Declaration.{Declaration}
use Rattle.qc_msg.specs.Vocabulary.{Entry, deeds}
use Rattle.qc_promise.specs.AdminDue.{IsAdminDue}
use Rattle.qc_promise.specs.Mail.{IsMailed}
use Rattle.qc_promise.specs.Replies.{AreRepliesDue}
use Rattle.qc_promise.specs.SiteDue.{AreDue}
use Rattle.qc_promise.specs.Turns.{AreByTurns}

pub record Due (decl : Declaration) (h : List Entry) : Type 0 where
  pub turns : (a : ℕ) → a < actors decl → AreByTurns (is_site decl a) (deeds a [] h)
  pub mail : IsMailed [] h
  pub replies : (client : ℕ) → client < decl.clients
      → AreRepliesDue decl client (deeds (client_actor decl client) [] h)
  pub sites : (site : ℕ) → site < decl.sites → AreDue decl [] (deeds site [] h)
  pub admin : IsAdminDue decl (deeds (administrator decl) [] h)
