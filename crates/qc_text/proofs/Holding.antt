-- The transactions that hold something, walked forward, are those that a site's deeds show.
use Rattle.std.proofs.Common.{◌≡◌, ℕ, ◌==◌, ◌&&◌, ◌||◌, not, Bool, true, false, cond, List, [], ◌∷◌, ◌++◌, length, map}
use Rattle.std.proofs.Common.{refl, sym, ap, ◌∙◌, subst, append_assoc}
use Rattle.std.specs.Prelude.{filter, fold}
use Rattle.std.proofs.lemmas.List.{append-nil}
use Rattle.std.proofs.lemmas.List.Elements.{filter-append}
use Rattle.std.proofs.lemmas.List.Sums.{fold-append}
use Rattle.qc_stamp.specs.declared.stamp.TxId.{TxId}
use Rattle.qc_stamp.specs.Vocabulary.{same_tx}
use Rattle.qc_stamp.proofs.Orders.{other_tx_sym, same_tx_is, same_tx_itself}
use Rattle.qc_lock.specs.declared.held.Held.{Held}
use Rattle.qc_lock.specs.Vocabulary.{held_of, with_entry, with_locks, with_owns}
use Rattle.qc_msg.specs.declared.message.Message.{Message}
use Rattle.qc_msg.specs.declared.message.Message.TheVariants as messages
use Rattle.qc_msg.specs.declared.message.Outcome.{Outcome}
use Rattle.qc_msg.specs.declared.message.Outcome.TheVariants.{Committed, Aborted, Active}
use Rattle.qc_msg.specs.declared.message.Want.{Want}
use Rattle.qc_msg.specs.declared.message.Want.TheVariants.{Read, Append, Prepare}
use Rattle.qc_msg.specs.declared.step.Input.TheVariants as inputs
use Rattle.qc_msg.specs.Vocabulary.{Deed, Falls, Rises, Sends, Takes, Tells, Writes}
use Rattle.qc_promise.specs.Vocabulary.{Grant, holding, is_ended, is_final, is_granted, standing}
use Rattle.qc_text.specs.Vocabulary.{holders_from, is_holder, is_holding, with_holder, without_holder}

-- grants held, by transaction alone

abbrev pub hold : List Held → Grant → List Held
hold held g = holding held g.tx g.want

abbrev pub hold_tx : List TxId → Grant → List TxId
hold_tx txs g = cond (is_holding g.want) (with_holder txs g.tx) txs

abbrev pub name : Held → TxId
name h = h.tx

put_named : (held : List Held) (e : Held) → map name (with_entry held e) ≡ with_holder (map name held) e.tx
put_named [] e = refl
put_named (h ∷ hs) e = by (same_tx h.tx e.tx) refl (put_named hs e) where
  deep : (b : Bool) → map name (with_entry hs e) ≡ cond b (map name hs) (map name hs ++ e.tx ∷ [])
      → h.tx ∷ map name (with_entry hs e) ≡ cond b (h.tx ∷ map name hs) (h.tx ∷ map name hs ++ e.tx ∷ [])
  deep true ih = ap (λ (v : List TxId). h.tx ∷ v) ih
  deep false ih = ap (λ (v : List TxId). h.tx ∷ v) ih

  by : (b : Bool) → same_tx h.tx e.tx ≡ b → map name (with_entry hs e) ≡ with_holder (map name hs) e.tx
      → map name (cond b (e ∷ hs) (h ∷ with_entry hs e)) ≡ cond (b || is_holder (map name hs) e.tx) (h.tx ∷ map name hs)
      (h.tx ∷ map name hs ++ e.tx ∷ [])
  by true is ih = ap (λ (t : TxId). t ∷ map name hs) (sym (same_tx_is h.tx e.tx is))
  by false is ih = deep (is_holder (map name hs) e.tx) ih

pub append_named : (held : List Held) (e : Held) (b : Bool)
    → map name (cond b held (with_entry held e)) ≡ cond (not b) (with_holder (map name held) e.tx) (map name held)
append_named held e true = refl
append_named held e false = put_named held e

hold_named : (held : List Held) (tx : TxId) (want : Want)
    → map name (holding held tx want) ≡ cond (is_holding want) (with_holder (map name held) tx) (map name held)
hold_named held tx (Read read) =
    put_named held (record {
      tx = tx;
      locks =
          with_locks (held_of held tx).locks (record { object = read.object; inv = read.inv } ∷ []);
      own = with_owns (held_of held tx).own [];
    })
hold_named held tx (Append object view own) =
    append_named held (record {
      tx = tx;
      locks = with_locks (held_of held tx).locks [];
      own = with_owns (held_of held tx).own own;
    }) (length own == 0)
hold_named held tx Prepare = refl

pub all_named : (held : List Held) (gs : List Grant) → map name (fold hold held gs) ≡ fold hold_tx (map name held) gs
all_named held [] = refl
all_named held (g ∷ gs) = all_named (hold held g) gs
    ∙ ap (λ (v : List TxId). fold hold_tx v gs) (hold_named held g.tx g.want)

-- a transaction that is dropped

same_dropped : (txs : List TxId) (tx t : TxId) → same_tx t tx ≡ true
    → without_holder (with_holder txs t) tx ≡ without_holder txs tx
same_dropped txs tx t same = by (is_holder txs t) where
  by : (b : Bool) → without_holder (cond b txs (txs ++ t ∷ [])) tx ≡ without_holder txs tx
  by true = refl
  by false = filter-append (λ u. not (same_tx u tx)) txs (t ∷ [])
      ∙ ap (λ (b : Bool). without_holder txs tx ++ cond (not b) (t ∷ []) []) same ∙ append-nil (without_holder txs tx)

-- another one is a holder without it, too
pub holder_left : (txs : List TxId) (tx t : TxId) → same_tx t tx ≡ false
    → is_holder (without_holder txs tx) t ≡ is_holder txs t
holder_left [] tx t other = refl
holder_left (u ∷ txs) tx t other = by (same_tx u tx) refl (holder_left txs tx t other) where
  by : (b : Bool) → same_tx u tx ≡ b → is_holder (without_holder txs tx) t ≡ is_holder txs t
      → is_holder (cond (not b) (u ∷ without_holder txs tx) (without_holder txs tx)) t ≡
      (same_tx u t || is_holder txs t)
  by true is ih =
      let apart : same_tx u t ≡ false = other_tx_sym t u
      (subst (λ (v : TxId). same_tx t v ≡ false) (sym (same_tx_is u tx is)) other) in
      ih ∙ ap (λ (b : Bool). b || is_holder txs t) (sym apart)
  by false is ih = ap (λ (b : Bool). same_tx u t || b) ih

other_dropped : (txs : List TxId) (tx t : TxId) → same_tx t tx ≡ false
    → with_holder (without_holder txs tx) t ≡ without_holder (with_holder txs t) tx
other_dropped txs tx t other =
    ap (λ (b : Bool). cond b (without_holder txs tx) (without_holder txs tx ++ t ∷ [])) (holder_left txs tx t other)
    ∙ by (is_holder txs t)
  where
    by : (b : Bool) → cond b (without_holder txs tx) (without_holder txs tx ++ t ∷ []) ≡ without_holder
        (cond b txs (txs ++ t ∷ [])) tx
    by true = refl
    by false =
        ap (λ (b : Bool). without_holder txs tx ++ cond (not b) (t ∷ []) []) (sym other)
        ∙ sym (filter-append (λ u. not (same_tx u tx)) txs (t ∷ []))

abbrev pub is_other : TxId → Grant → Bool
is_other tx g = not (same_tx tx g.tx)

one_same : (b : Bool) (txs : List TxId) (tx t : TxId) → same_tx t tx ≡ true
    → without_holder (cond b (with_holder txs t) txs) tx ≡ without_holder txs tx
one_same true txs tx t same = same_dropped txs tx t same
one_same false txs tx t same = refl

one_other : (b : Bool) (txs : List TxId) (tx t : TxId) → same_tx t tx ≡ false
    → cond b (with_holder (without_holder txs tx) t) (without_holder txs tx) ≡ without_holder
    (cond b (with_holder txs t) txs) tx
one_other true txs tx t other = other_dropped txs tx t other
one_other false txs tx t other = refl

-- what is held without it is what the grants of the others hold
pub dropped : (tx : TxId) (txs : List TxId) (gs : List Grant)
    → without_holder (fold hold_tx txs gs) tx ≡ fold hold_tx (without_holder txs tx) (filter (is_other tx) gs)
dropped tx txs [] = refl
dropped tx txs (g ∷ gs) = by (same_tx tx g.tx) refl (dropped tx (hold_tx txs g) gs) where
  by : (b : Bool) → same_tx tx g.tx ≡ b → without_holder (fold hold_tx (hold_tx txs g) gs) tx ≡ fold hold_tx
      (without_holder (hold_tx txs g) tx) (filter (is_other tx) gs)
      → without_holder (fold hold_tx txs (g ∷ gs)) tx ≡ fold hold_tx (without_holder txs tx)
      (cond (not b) (g ∷ filter (is_other tx) gs) (filter (is_other tx) gs))
  by true is ih =
      let same : same_tx g.tx tx ≡ true = subst (λ (u : TxId). same_tx u tx ≡ true) (same_tx_is tx g.tx is)
      (same_tx_itself tx) in
      ih ∙ ap (λ (v : List TxId). fold hold_tx v (filter (is_other tx) gs))
      (one_same (is_holding g.want) txs tx g.tx same)
  by false is ih =
      ih ∙ ap (λ (v : List TxId). fold hold_tx v (filter (is_other tx) gs))
      (sym (one_other (is_holding g.want) txs tx g.tx (other_tx_sym tx g.tx is)))

-- the grants so far that stand among the deeds to come

abbrev pub stays : List Deed → Grant → Bool
stays ds g = not (is_ended g.tx ds)

abbrev pub Walks : List Deed → Type 0
Walks ds = (gs : List Grant) → holders_from (fold hold_tx [] gs) ds ≡ fold hold_tx []
    (filter (stays ds) gs ++ standing ds)

filter_none : (gs : List Grant) → filter (λ (g : Grant). true) gs ≡ gs
filter_none [] = refl
filter_none (g ∷ gs) = ap (λ (v : List Grant). g ∷ v) (filter_none gs)

-- a request is taken

request_more : (tx : TxId) (want : Want) (ds : List Deed) → Walks ds → (gs : List Grant) (granted : Bool)
    → holders_from (cond (is_holding want && granted) (with_holder (fold hold_tx [] gs) tx) (fold hold_tx [] gs)) ds
    ≡ fold hold_tx [] (filter (stays ds) gs ++
    (cond (granted && not (is_ended tx ds)) (record { tx = tx; want = want } ∷ []) [] ++ standing ds))
request_more tx want ds walk gs true =
    ap (λ (v : List TxId). holders_from v ds) (by (is_holding want) refl)
    ∙ walk (gs ++ g ∷ [])
    ∙ ap (λ (v : List Grant). fold hold_tx [] (v ++ standing ds)) (filter-append (stays ds) gs (g ∷ []))
    ∙ ap (λ (v : List Grant). fold hold_tx [] v)
    (append_assoc (filter (stays ds) gs) (cond (not (is_ended tx ds)) (g ∷ []) []) (standing ds))
  where
    g : Grant
    g = record { tx = tx; want = want }

    by : (b : Bool) → is_holding want ≡ b → cond (b && true) (with_holder (fold hold_tx [] gs) tx) (fold hold_tx [] gs)
        ≡ fold hold_tx [] (gs ++ g ∷ [])
    by true is =
        ap (λ (b : Bool). cond b (with_holder (fold hold_tx [] gs) tx) (fold hold_tx [] gs)) (sym is)
        ∙ sym (fold-append hold_tx [] gs (g ∷ []))
    by false is =
        ap (λ (b : Bool). cond b (with_holder (fold hold_tx [] gs) tx) (fold hold_tx [] gs)) (sym is)
        ∙ sym (fold-append hold_tx [] gs (g ∷ []))
request_more tx want ds walk gs false = ap (λ (v : List TxId). holders_from v ds) (by (is_holding want)) ∙ walk gs where
  by : (b : Bool) → cond (b && false) (with_holder (fold hold_tx [] gs) tx) (fold hold_tx [] gs) ≡ fold hold_tx [] gs
  by true = refl
  by false = refl

-- a Decision is taken

abbrev ends_by : TxId → Outcome → List Deed → Grant → Bool
ends_by tx verdict ds g = not ((same_tx tx g.tx && is_final verdict) || is_ended g.tx ds)

kept_final : (tx : TxId) (ds : List Deed) (gs : List Grant)
    → filter (stays ds) (filter (is_other tx) gs) ≡ filter
    (λ (g : Grant). not ((same_tx tx g.tx && true) || is_ended g.tx ds)) gs
kept_final tx ds [] = refl
kept_final tx ds (g ∷ gs) = by (same_tx tx g.tx) (kept_final tx ds gs) where
  deep : (b : Bool) (xs ys : List Grant) → xs ≡ ys → cond b (g ∷ xs) xs ≡ cond b (g ∷ ys) ys
  deep b xs ys e = ap (λ (v : List Grant). cond b (g ∷ v) v) e

  by : (b : Bool) → filter (stays ds) (filter (is_other tx) gs) ≡ filter
      (λ (r : Grant). not ((same_tx tx r.tx && true) || is_ended r.tx ds)) gs
      → filter (stays ds) (cond (not b) (g ∷ filter (is_other tx) gs) (filter (is_other tx) gs))
      ≡ cond (not ((b && true) || is_ended g.tx ds))
      (g ∷ filter (λ (r : Grant). not ((same_tx tx r.tx && true) || is_ended r.tx ds)) gs)
      (filter (λ (r : Grant). not ((same_tx tx r.tx && true) || is_ended r.tx ds)) gs)
  by true ih = ih
  by false ih = deep (stays ds g) _ _ ih

kept_active : (tx : TxId) (ds : List Deed) (gs : List Grant)
    → filter (stays ds) gs ≡ filter (λ (g : Grant). not ((same_tx tx g.tx && false) || is_ended g.tx ds)) gs
kept_active tx ds [] = refl
kept_active tx ds (g ∷ gs) = by (same_tx tx g.tx) (kept_active tx ds gs) where
  by : (b : Bool) → filter (stays ds) gs ≡ filter
      (λ (r : Grant). not ((same_tx tx r.tx && false) || is_ended r.tx ds)) gs
      → cond (stays ds g) (g ∷ filter (stays ds) gs) (filter (stays ds) gs)
      ≡ cond (not ((b && false) || is_ended g.tx ds))
      (g ∷ filter (λ (r : Grant). not ((same_tx tx r.tx && false) || is_ended r.tx ds)) gs)
      (filter (λ (r : Grant). not ((same_tx tx r.tx && false) || is_ended r.tx ds)) gs)
  by true ih = ap (λ (v : List Grant). cond (stays ds g) (g ∷ v) v) ih
  by false ih = ap (λ (v : List Grant). cond (stays ds g) (g ∷ v) v) ih

final_more : (tx : TxId) (ds : List Deed) → Walks ds → (gs : List Grant)
    → holders_from (without_holder (fold hold_tx [] gs) tx) ds
    ≡ fold hold_tx [] (filter (λ (g : Grant). not ((same_tx tx g.tx && true) || is_ended g.tx ds)) gs ++ standing ds)
final_more tx ds walk gs =
    ap (λ (v : List TxId). holders_from v ds) (dropped tx [] gs)
    ∙ walk (filter (is_other tx) gs)
    ∙ ap (λ (v : List Grant). fold hold_tx [] (v ++ standing ds)) (kept_final tx ds gs)

decision_more : (tx : TxId) (verdict : Outcome) (ds : List Deed) → Walks ds → (gs : List Grant)
    → holders_from (cond (is_final verdict) (without_holder (fold hold_tx [] gs) tx) (fold hold_tx [] gs)) ds
    ≡ fold hold_tx [] (filter (ends_by tx verdict ds) gs ++ standing ds)
decision_more tx (Committed stamp) ds walk gs = final_more tx ds walk gs
decision_more tx Aborted ds walk gs = final_more tx ds walk gs
decision_more tx Active ds walk gs = walk gs
    ∙ ap (λ (v : List Grant). fold hold_tx [] (v ++ standing ds)) (kept_active tx ds gs)

message_more : (number from to : ℕ) (message : Message) (ds : List Deed) → Walks ds
    → Walks (Takes (inputs.Got (record { number = number; from = from; to = to; message = message })) ∷ ds)
message_more number from to (messages.Request tx epoch life want) ds walk gs =
    request_more tx want ds walk gs (is_granted number ds)
message_more number from to (messages.Answer request answer) ds walk gs = walk gs
message_more number from to (messages.Decision tx verdict) ds walk gs = decision_more tx verdict ds walk gs
message_more number from to (messages.Inquiry tx) ds walk gs = walk gs
message_more number from to (messages.Ask tx) ds walk gs = walk gs
message_more number from to (messages.Close epoch) ds walk gs = walk gs
message_more number from to (messages.Install start) ds walk gs = walk gs

pub walks : (ds : List Deed) → Walks ds
walks [] gs = sym (ap (λ (v : List Grant). fold hold_tx [] v) (append-nil (filter (stays []) gs) ∙ filter_none gs))
walks (Takes (inputs.Called command) ∷ ds) gs = walks ds gs
walks (Takes (inputs.Got e) ∷ ds) gs = message_more e.number e.from e.to e.message ds (walks ds) gs
walks (Takes (inputs.Lost number) ∷ ds) gs = walks ds gs
walks (Writes written ∷ ds) gs = walks ds gs
walks (Sends number to message ∷ ds) gs = walks ds gs
walks (Tells reply ∷ ds) gs = walks ds gs
walks (Falls cause pending ∷ ds) gs = walks ds gs
walks (Rises kept ∷ ds) gs = walks ds gs
