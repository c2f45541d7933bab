use Rattle.std.proofs.Common.{◌≡◌, ◌<◌, ℕ, List, map, take, length, sym, ap, ◌∙◌, subst, arith}
use Rattle.std.specs.List.{AllByRecursion as Every}
use Rattle.std.specs.Prelude.{Result, Ok, Err, IfOk, min}
use Rattle.std.specs.declared.alloc.AllocError.{AllocError}
use Rattle.std.proofs.lemmas.List.{take_min}
use Rattle.qc_stamp.specs.declared.stamp.TxId.{TxId}
use Rattle.qc_decl.specs.Vocabulary.{most_clients}
use Rattle.qc_epoch.specs.Vocabulary.{Question, ask_of, most_asks}
use Rattle.qc_msg.specs.declared.turn.Posting.{Posting}
use Rattle.qc_admin.specs.declared.questions.Query.{Query}
use Rattle.qc_admin.specs.Vocabulary.{ask_about}
use Rattle.qc_admin.proofs.Asked.{asks_shown, shown_every}
use Rattle.qc_admin.proofs.questions.Questions.asks.Goals as goal

-- the questions that are asked about
asked : (n count : ℕ) (qs items : List Query) → n ≡ min count most_asks → count ≡ length items → qs ≡ items
    → take n qs ≡ take most_asks items
asked n count qs items is counted same =
    let fewer : n ≡ min most_asks (length items) = omega arith in
    ap (take n) same ∙ ap (λ (k : ℕ). take k items) fewer ∙ take_min most_asks items

pub asks_about-requires-clause-clients : goal.asks_about-requires-clause-clients
asks_about-requires-clause-clients c =
    let items = c.self.inside.queries.items in
    subst (Every (λ (q : Query). q.tx.client < most_clients))
    (sym (asked c.min-asked.result c.len.result c.as_slice.result.now items c.min-asked.ensures
    (c.len.ensures ∙ c.self.inside.queries.ok.0) c.as_slice.ensures.value))
    (shown_every (λ (tx : TxId). tx.client < most_clients) c.self.inside.first most_asks items
    (subst (Every (λ (q : Question). q.tx.client < most_clients)) (sym c.self.view_is) c.requires.clients))

told : (result : Result (List Posting) AllocError) (some others : List Posting) → some ≡ others
    → IfOk result (λ sends. sends ≡ some) → IfOk result (λ sends. sends ≡ others)
told (Ok sends) some others same is = is ∙ same
told (Err e) some others same is = tt

pub returns : goal.returns
returns c =
    let items = c.self.inside.queries.items in
    let decl = c.args.decl.now in
    told c.asks_about.result (map (ask_about decl) (take c.min-asked.result c.as_slice.result.now))
    (map (ask_of decl) (take most_asks c.args.self.now))
    (ap (map (ask_about decl)) (asked c.min-asked.result c.len.result c.as_slice.result.now items c.min-asked.ensures
    (c.len.ensures ∙ c.self.inside.queries.ok.0) c.as_slice.ensures.value)
    ∙ asks_shown decl c.self.inside.first most_asks items
    ∙ ap (λ (qs : List Question). map (ask_of decl) (take most_asks qs)) c.self.view_is)
    c.asks_about.ensures
