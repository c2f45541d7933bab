use Rattle.std.proofs.Common.{◌≡◌, ◌<◌, ◌-◌, ◌++◌, ℕ, List, [], ◌∷◌, map, take, sym, ◌∙◌, ap, subst, arith}
use Rattle.std.specs.List.{AllByRecursion as Every}
use Rattle.qc_decl.specs.Vocabulary.{most_clients}
use Rattle.qc_msg.specs.declared.message.Message.TheVariants as messages
use Rattle.qc_msg.specs.declared.turn.Posting.{Posting}
use Rattle.qc_stamp.specs.declared.stamp.TxId.{TxId}
use Rattle.qc_recover.specs.Vocabulary.{inquiry, most_inquiries}
use Rattle.qc_site.proofs.InOrder.{each_key, keys_in_order}
use Rattle.qc_recover.proofs.Asked.{asked_more}
use Rattle.qc_recover.proofs.site.inquiries.Goals as goal

pub transactions-init : goal.transactions-init
transactions-init c =
    let keys = c.transactions-tx-items.result in
    let told = c.transactions-tx-items.ensures in
    let gives : c.into_iter-tx-iterator.result ≡ keys = c.into_iter-tx-iterator.ensures.into_iter_gives in (
      tt,
      tt,
      ap (λ sends. sends ++ map (inquiry c.args.decl.now) (take most_inquiries c.into_iter-tx-iterator.result))
          c.new-sends.ensures
          ∙ ap (λ (txs : List TxId). map (inquiry c.args.decl.now) (take most_inquiries txs))
          (gives ∙ keys_in_order keys c.args.promises.now told.ascending told.just),
      subst (Every (λ (tx : TxId). tx.client < most_clients)) (sym gives)
          (each_key (λ (tx : TxId). tx.client < most_clients) keys c.args.promises.now told.just c.requires.clients),
    )

pub transactions-preserved : goal.transactions-preserved
transactions-preserved c =
    let decl = c.args.decl.now in
    let rest = c.next.new.self in
    let is_next = c.in-Some.ensures.steps in
    let more = asked_more (inquiry decl) c.transactions.sends c.transactions.left c.in-Some.tx.now rest
    c.transactions.tx-iterator
    (λ none. omega (arith, none, c.if-left-eq0.false)) is_next in
    let sent : c.push.new.self ≡ c.transactions.sends ++ inquiry decl c.in-Some.tx.now ∷ [] =
    c.in_ok-push.ensures.ok
    ∙ ap (λ (to : ℕ). c.transactions.sends ++ record { to = to; message = messages.Inquiry c.in-Some.tx.now } ∷ [])
    c.client_actor.ensures in (
      tt,
      tt,
      ap (λ (sends : List Posting). sends ++ map (inquiry decl) (take (c.transactions.left - 1) rest)) sent ∙ more
          ∙ c.transactions.invariant.2,
      (subst (Every (λ (tx : TxId). tx.client < most_clients)) is_next c.transactions.invariant.3).1,
    )
