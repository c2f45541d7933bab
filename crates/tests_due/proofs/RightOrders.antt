-- Actors go by turns, and messages reach their receivers, in the right histories with falls.
use Rattle.std.proofs.Common.{◌<◌, ℕ, [], refl}
use Rattle.qc_decl.specs.Vocabulary.{actors, is_site, three}
use Rattle.qc_msg.specs.Vocabulary.{deeds}
use Rattle.qc_promise.specs.Vocabulary.{AreByTurns, IsMailed}
use Rattle.tests_due.proofs.Orders.{by_turns_where_placed, mailed_where_shown}
use Rattle.tests_due.specs.Orders as orders

pub site_rises_turns : (a : ℕ) → a < actors three → AreByTurns (is_site three a) (deeds a [] orders.site_rises)
site_rises_turns = by_turns_where_placed three orders.site_rises (actors three) refl

pub site_rises_mail : IsMailed [] orders.site_rises
site_rises_mail = mailed_where_shown [] orders.site_rises refl

pub client_rises_turns : (a : ℕ) → a < actors three → AreByTurns (is_site three a) (deeds a [] orders.client_rises)
client_rises_turns = by_turns_where_placed three orders.client_rises (actors three) refl

pub client_rises_mail : IsMailed [] orders.client_rises
client_rises_mail = mailed_where_shown [] orders.client_rises refl
