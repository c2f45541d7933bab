use Rattle.tests_due.proofs.RightOrders as lemmas
use Rattle.tests_due.proofs.turns_and_mail.right_orders_are_met.Goals as goal

pub returns : goal.returns
returns c = record {
  site_rises_turns = lemmas.site_rises_turns;
  site_rises_mail = lemmas.site_rises_mail;
  client_rises_turns = lemmas.client_rises_turns;
  client_rises_mail = lemmas.client_rises_mail;
}
