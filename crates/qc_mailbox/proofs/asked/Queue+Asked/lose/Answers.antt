use Rattle.std.proofs.Common.{rules, List, ◌≡◌, ◌+◌, ◌≤◌, ◌∙◌, ◌==◌, ap, arith, length, not, refl, sym}
use Rattle.std.proofs.lemmas.Fn.{filter_same}
use Rattle.qc_script.specs.Vocabulary.{SentRequest, requests_to, requests_to_others}
use Rattle.qc_mailbox.specs.Vocabulary.{asked, items}
use Rattle.qc_mailbox.specs.declared.asked.Asked.{Asked}
use Rattle.qc_mailbox.proofs.Requested.{asked-others, few_to, parts, length-asked}
use Rattle.qc_mailbox.proofs.asked.Queue+Asked.lose.Goals as goal

pub requests-init : goal.requests-init
requests-init c =
    let few : length (requests_to c.args.actor (asked (items c.args.self.now))) ≤ length (items c.args.self.now) =
    few_to (items c.args.self.now) c.args.actor in
    record { within = omega arith; rest = refl; fits = omega (arith, few, c.requires); used = omega arith }

pub returns-clause-requests : goal.returns-clause-requests
returns-clause-requests c =
    ap asked (filter_same _ (λ (m : Asked). not (m.to == c.args.actor)) _
    (λ x b f k. search rules) _ _ c.retain.ensures.filtered)
    ∙ asked-others (items c.args.self.now) c.args.actor

pub returns-clause-used : goal.returns-clause-used
returns-clause-used c =
    let left : asked c.retain.new.self.items ≡ requests_to_others c.args.actor (asked (items c.args.self.now)) =
    ap asked (filter_same _ (λ (m : Asked). not (m.to == c.args.actor)) _
    (λ x b f k. search rules) _ _ c.retain.ensures.filtered) ∙ asked-others (items c.args.self.now) c.args.actor in
    let others : length c.retain.new.self.items ≡ length
    (requests_to_others c.args.actor (asked (items c.args.self.now))) =
    sym (length-asked c.retain.new.self.items) ∙ ap (λ (rs : List SentRequest). length rs) left in
    let both : length (requests_to c.args.actor (asked (items c.args.self.now))) + length
    (requests_to_others c.args.actor (asked (items c.args.self.now))) ≡ length (items c.args.self.now) =
    parts (asked (items c.args.self.now)) c.args.actor ∙ length-asked (items c.args.self.now) in
    omega (arith, others, both, c.requests.invariant.used)
