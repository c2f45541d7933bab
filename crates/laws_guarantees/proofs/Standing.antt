-- What stands among deeds was taken, and is held; own lines of one operation are one.
use Rattle.std.proofs.Common.{[], ◌≡◌, ◌&&◌, ◌||◌, ℕ, Bool, true, false, cond, List, ◌∷◌, ◌++◌, inl, inr, refl}
use Rattle.std.proofs.Common.{sym, ap, ◌∙◌, subst}
use Rattle.std.specs.Prelude.{fold}
use Rattle.std.specs.Option.{option_map_or}
use Rattle.qc_stamp.specs.declared.stamp.TxId.{TxId}
use Rattle.qc_stamp.specs.Vocabulary.{same_tx}
use Rattle.qc_stamp.proofs.Orders.{same_tx_is}
use Rattle.qc_list.specs.Vocabulary.{In}
use Rattle.qc_list.proofs.Members.{In-second, In-either}
use Rattle.qc_entry.specs.declared.line.OwnLine.{OwnLine}
use Rattle.qc_lock.specs.declared.held.Held.{Held}
use Rattle.qc_lock.specs.Vocabulary.{held_of, with_held}
use Rattle.qc_msg.specs.declared.message.Envelope.{Envelope}
use Rattle.qc_msg.specs.declared.message.Message.{Message}
use Rattle.qc_msg.specs.declared.message.Message.TheVariants as messages
use Rattle.qc_msg.specs.declared.message.Outcome.{Outcome}
use Rattle.qc_msg.specs.declared.message.Want.{Want}
use Rattle.qc_msg.specs.declared.message.Want.TheVariants.{Read, Append, Prepare}
use Rattle.qc_msg.specs.declared.step.Input.TheVariants as inputs
use Rattle.qc_msg.specs.Vocabulary.{Decided, Deed, Falls, Rises, Sends, Takes, Tells, Writes, decision_in, got_in}
use Rattle.qc_msg.specs.Vocabulary.{request_in}
use Rattle.qc_promise.specs.Vocabulary.{Grant, holding, is_decision, is_ended, is_final, standing, standing_as}
use Rattle.qc_promise.specs.Vocabulary.{standing_by, stands}
use Rattle.theory_machine.specs.Vocabulary.{Item, Lock, Own}
use Rattle.laws_refinement.specs.Vocabulary.{IsHeld}
use Rattle.laws_refinement.proofs.Held.{given_keeps, lock_given_here, own_given_here}
use Rattle.laws_guarantees.proofs.MessageCases.{asking_cases}

-- a transaction that no final Decision ends among deeds

pub undecided : (tx : TxId) (m : Message)
    → ((verdict : Outcome) → m ≡ messages.Decision tx verdict → is_final verdict ≡ true → ⊥)
    → option_map_or (λ (x : Decided). same_tx x.tx tx && is_final x.verdict) (decision_in m) false ≡ false
undecided tx (messages.Request t epoch life want) none = refl
undecided tx (messages.Answer to answer) none = refl
undecided tx (messages.Decision t verdict) none = by (same_tx t tx) refl (is_final verdict) refl
  where
    by : (b : Bool) → same_tx t tx ≡ b → (f : Bool) → is_final verdict ≡ f → (b && f) ≡ false
    by true same true final =
        absurd (none verdict (ap (λ (u : TxId). messages.Decision u verdict) (same_tx_is t tx same)) final)
    by true same false final = refl
    by false other f final = refl
undecided tx (messages.Inquiry t) none = refl
undecided tx (messages.Ask t) none = refl
undecided tx (messages.Close epoch) none = refl
undecided tx (messages.Install start) none = refl

pub not_ended : (tx : TxId) (ds : List Deed)
    → ((e : Envelope) (verdict : Outcome) → In (Takes (inputs.Got e)) ds → e.message ≡ messages.Decision tx verdict
    → is_final verdict ≡ true → ⊥) → is_ended tx ds ≡ false
not_ended tx [] none = refl
not_ended tx (d ∷ ds) none =
    by (is_decision is_final tx d) (one d (λ e verdict same. none e verdict (inl (sym same))))
    (not_ended tx ds (λ e verdict there. none e verdict (inr there)))
  where
    by : (b : Bool) → b ≡ false → is_ended tx ds ≡ false → (b || is_ended tx ds) ≡ false
    by true is rest = absurd (let never : ⊥ = cc in never)
    by false is rest = rest

    one : (d : Deed)
        → ((e : Envelope) (verdict : Outcome) → d ≡ Takes (inputs.Got e) → e.message ≡ messages.Decision tx verdict
        → is_final verdict ≡ true → ⊥) → is_decision is_final tx d ≡ false
    one (Takes (inputs.Called command)) n = refl
    one (Takes (inputs.Got e)) n = undecided tx e.message (λ verdict is final. n e verdict refl is final)
    one (Takes (inputs.Lost number)) n = refl
    one (Writes w) n = refl
    one (Sends number to m) n = refl
    one (Tells reply) n = refl
    one (Falls cause pending) n = refl
    one (Rises records) n = refl

-- what stands among later deeds stands among all
pub standing_more : (before ds : List Deed) (g : Grant) → In g (standing ds) → In g (standing (before ++ ds))
standing_more [] ds g among = among
standing_more (d ∷ before) ds g among =
    In-second g (option_map_or (standing_by (before ++ ds)) (got_in d) []) (standing (before ++ ds))
    (standing_more before ds g among)

-- each that stands was taken
pub record WasTakenFor (ds : List Deed) (g : Grant) : Type 0 where
  pub envelope : Envelope
  pub taken : In (Takes (inputs.Got envelope)) ds
  pub epoch : ℕ
  pub life : ℕ
  pub content : envelope.message ≡ messages.Request g.tx epoch life g.want

later_taken : (d : Deed) (ds : List Deed) (g : Grant) → WasTakenFor ds g → WasTakenFor (d ∷ ds) g
later_taken d ds g w =
    record { envelope = w.envelope; taken = inr w.taken; epoch = w.epoch; life = w.life; content = w.content }

pub was_taken : (ds : List Deed) (g : Grant) → In g (standing ds) → WasTakenFor ds g
was_taken [] g among = absurd among
was_taken (d ∷ ds) g among = elim (In-either g (option_map_or (standing_by ds) (got_in d) []) (standing ds) among) [
  | inl here ↦ at_deed d here
  | inr there ↦ later_taken d ds g (was_taken ds g there)
]
  where
    by_test : (b : Bool) (x : Grant) → In g (cond b (x ∷ []) []) → g ≡ x
    by_test true x (inl same) = same
    by_test true x (inr never) = absurd never
    by_test false x never = absurd never

    at_message : (e : Envelope) (m : Message) → e.message ≡ m
        → In g (option_map_or (standing_as e.number ds) (request_in m) []) → WasTakenFor (Takes (inputs.Got e) ∷ ds) g
    at_message e m = asking_cases
        (λ m o. e.message ≡ m → In g (option_map_or (standing_as e.number ds) o [])
        → WasTakenFor (Takes (inputs.Got e) ∷ ds) g)
        (λ m is here. absurd here)
        (λ tx epoch life want is here.
        let same : g ≡ record { tx = tx; want = want } =
        by_test (stands e.number tx ds) (record { tx = tx; want = want }) here in
        record {
          envelope = e;
          taken = inl refl;
          epoch = epoch;
          life = life;
          content = is ∙ (λ i. messages.Request (sym same i).tx epoch life (sym same i).want);
        }) m

    at_deed : (d : Deed) → In g (option_map_or (standing_by ds) (got_in d) []) → WasTakenFor (d ∷ ds) g
    at_deed (Takes (inputs.Called command)) here = absurd here
    at_deed (Takes (inputs.Got e)) here = at_message e e.message refl here
    at_deed (Takes (inputs.Lost number)) here = absurd here
    at_deed (Writes w) here = absurd here
    at_deed (Sends number to m) here = absurd here
    at_deed (Tells reply) here = absurd here
    at_deed (Falls cause pending) here = absurd here
    at_deed (Rises records) here = absurd here

-- what stands is held

abbrev pub own_wanted : Want → List OwnLine
own_wanted (Read read) = []
own_wanted (Append object view own) = own
own_wanted Prepare = []

-- own lines of one operation are one
abbrev pub Agrees : List Grant → TxId → Item → Type 0
Agrees gs tx x =
    (o l : OwnLine) (g : Grant) → x ≡ Own o → In g gs → g.tx ≡ tx → In l (own_wanted g.want) → o.op ≡ l.op → o ≡ l

holding_keeps : (held : List Held) (u : TxId) (w : Want) (tx : TxId) (x : Item)
    → ((o l : OwnLine) → x ≡ Own o → u ≡ tx → In l (own_wanted w) → o.op ≡ l.op → o ≡ l) → IsHeld (held_of held tx) x
    → IsHeld (held_of (holding held u w) tx) x
holding_keeps held u (Read read) tx x agree h =
    given_keeps held u tx (record { object = read.object; inv = read.inv } ∷ []) [] x
    (λ o l is same never. absurd never) h
holding_keeps held u (Append object view own) tx x agree h = given_keeps held u tx [] own x agree h
holding_keeps held u Prepare tx x agree h = h

pub kept : (gs : List Grant) (held : List Held) (tx : TxId) (x : Item) → Agrees gs tx x → IsHeld (held_of held tx) x
    → IsHeld (held_of (fold (λ (hs : List Held) (g : Grant). holding hs g.tx g.want) held gs) tx) x
kept [] held tx x agree h = h
kept (g ∷ gs) held tx x agree h =
    kept gs (holding held g.tx g.want) tx x (λ o l k is among. agree o l k is (inr among))
    (holding_keeps held g.tx g.want tx x (λ o l is. agree o l g is (inl refl)) h)

abbrev pub IsWanted : Want → Item → Type 0
IsWanted (Read read) x = x ≡ Lock (record { object = read.object; inv = read.inv })
IsWanted (Append object view own) x = (o : OwnLine) × (x ≡ Own o) × In o own
IsWanted Prepare x = ⊥

holding_has : (held : List Held) (tx : TxId) (w : Want) (x : Item)
    → ((o l : OwnLine) → x ≡ Own o → In l (own_wanted w) → o.op ≡ l.op → o ≡ l) → IsWanted w x
    → IsHeld (held_of (holding held tx w) tx) x
holding_has held tx (Read read) x agree is =
    subst (λ (y : Item). IsHeld (held_of (with_held held tx (record { object = read.object; inv = read.inv } ∷ []) [])
    tx) y)
    (sym is) (lock_given_here held tx (record { object = read.object; inv = read.inv }))
holding_has held tx (Append object view own) x agree is =
    subst (λ (y : Item). IsHeld (held_of (with_held held tx [] own) tx) y) (sym is.1)
    (own_given_here held tx own is.0 (λ l among. agree is.0 l is.1 among) is.2)
holding_has held tx Prepare x agree is = absurd is

pub standing_held : (gs : List Grant) (held : List Held) (g : Grant) (x : Item) → In g gs → Agrees gs g.tx x
    → IsWanted g.want x
    → IsHeld (held_of (fold (λ (hs : List Held) (k : Grant). holding hs k.tx k.want) held gs) g.tx) x
standing_held [] held g x among agree is = absurd among
standing_held (k ∷ gs) held g x (inl same) agree is =
    kept gs (holding held k.tx k.want) g.tx x (λ o l j e there. agree o l j e (inr there))
    (subst (λ (y : Grant). IsHeld (held_of (holding held y.tx y.want) g.tx) x) same
    (holding_has held g.tx g.want x (λ o l e. agree o l g e (inl same) refl) is))
standing_held (k ∷ gs) held g x (inr there) agree is =
    standing_held gs (holding held k.tx k.want) g x there (λ o l j e more. agree o l j e (inr more)) is
