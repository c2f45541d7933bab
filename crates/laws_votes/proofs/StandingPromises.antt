-- A promise that stands among an actor's records, and wasn't aborted since it was written and since the actor rose, is
-- one of what it has promised.
use Rattle.std.proofs.Common.{◌||◌, ◌≡◌, ◌&&◌, Bool, true, false, cond, List, [], ◌∷◌, ◌++◌, inl, inr, fold, Option}
use Rattle.std.proofs.Common.{Some, None, refl, sym, ap, ◌∙◌, subst, append_assoc}
use Rattle.std.specs.List.{cons_option, filter_map, list_any}
use Rattle.std.specs.Option.{option_map_or}
use Rattle.std.specs.Prelude.{option_and_then}
use Rattle.std.proofs.lemmas.List.{append-nil}
use Rattle.std.proofs.lemmas.List.Elements.{filter_map-append}
use Rattle.qc_core.specs.Vocabulary.{journal_after, journal_at}
use Rattle.qc_entry.specs.declared.record.Prepared.{Prepared}
use Rattle.laws_votes.specs.Vocabulary.{IsLastPromise, IsUnaborted}
use Rattle.qc_list.specs.Vocabulary.{In}
use Rattle.qc_list.proofs.Members.{In-first, In-second}
use Rattle.qc_msg.specs.Vocabulary.{Decided, Deed, Falls, Rises, Sends, Takes, Tells, Writes, decision_in, prepare_in}
use Rattle.qc_msg.specs.Vocabulary.{written_in}
use Rattle.qc_msg.specs.declared.message.Envelope.{Envelope}
use Rattle.qc_msg.specs.declared.message.Message.{Message}
use Rattle.qc_msg.specs.declared.message.Message.TheVariants as messages
use Rattle.qc_msg.specs.declared.message.Outcome.{Outcome}
use Rattle.qc_msg.specs.declared.message.Outcome.TheVariants as outcomes
use Rattle.qc_msg.specs.declared.record.Record.{Record}
use Rattle.qc_msg.specs.declared.record.Record.TheVariants.{Prepare}
use Rattle.qc_msg.specs.declared.step.Input.{Input}
use Rattle.qc_msg.specs.declared.step.Input.TheVariants as inputs
use Rattle.qc_promise.specs.Vocabulary.{Journal, Lifetime, begun_with, frees, is_aborted, is_over, left_of, no_journal}
use Rattle.qc_promise.specs.Vocabulary.{promises_of, promises_since, records_in, redeems, unless_over, unless_redeemed}
use Rattle.qc_promise.specs.Vocabulary.{with_deed}
use Rattle.qc_stamp.proofs.Orders.{same_tx_is, same_tx_itself}
use Rattle.qc_stamp.specs.Vocabulary.{same_tx}
use Rattle.qc_stamp.specs.declared.stamp.TxId.{TxId}
use Rattle.qc_list.proofs.Booleans.{or_second, or_parts}

-- an element of two lists that are appended stands in the first or in the second
data IsIn {A : Type 0} (xs ys before : List A) (x : A) (after : List A) : Type 0 where
  First : (m : List A) → xs ≡ before ++ x ∷ m → after ≡ m ++ ys → IsIn xs ys before x after
  Second : (m : List A) → before ≡ xs ++ m → ys ≡ m ++ x ∷ after → IsIn xs ys before x after

split : {A : Type 0} (xs ys before : List A) (x : A) (after : List A) → xs ++ ys ≡ before ++ x ∷ after
    → IsIn xs ys before x after
split [] ys before x after e = Second before refl e
split (z ∷ xs) ys [] x after e = First xs (let same : z ≡ x = cc in λ i. same i ∷ xs)
    (let rest : xs ++ ys ≡ after = cc in sym rest)
split (z ∷ xs) ys (w ∷ before) x after e =
    let same : z ≡ w = cc in
    let rest : xs ++ ys ≡ before ++ x ∷ after = cc in
    elim (split xs ys before x after rest) [
      | First m s t ↦ First m (λ i. same i ∷ s i) t
      | Second m b s ↦ Second m (λ i. (sym same) i ∷ b i) s
    ]

placed : {A : Type 0} (x : A) (xs : List A) → In x xs
    → (before : List A) × (after : List A) × (xs ≡ before ++ x ∷ after)
placed x [] among = absurd among
placed x (y ∷ ys) (inl same) = ([], ys, (λ i. sym same i ∷ ys))
placed x (y ∷ ys) (inr there) = let p = placed x ys there in (y ∷ p.0, p.1, ap (λ (k : List _). y ∷ k) p.2)

both_false : (x y : Bool) → x ≡ false → y ≡ false → (x || y) ≡ false
both_false x y one two = ap (λ (b : Bool). b || y) one ∙ two

any_first : {A : Type 0} (test : A → Bool) (xs ys : List A) → list_any test (xs ++ ys) ≡ false
    → list_any test xs ≡ false
any_first test [] ys none = refl
any_first test (x ∷ xs) ys none =
    let both = or_parts (test x) (list_any test (xs ++ ys)) none in
    both_false (test x) (list_any test xs) both.0 (any_first test xs ys both.1)

any_second : {A : Type 0} (test : A → Bool) (xs ys : List A) → list_any test (xs ++ ys) ≡ false
    → list_any test ys ≡ false
any_second test [] ys none = none
any_second test (x ∷ xs) ys none = any_second test xs ys (or_parts (test x) (list_any test (xs ++ ys)) none).1

any_among : {A : Type 0} (test : A → Bool) (x : A) (xs : List A) → In x xs → test x ≡ true → list_any test xs ≡ true
any_among test x [] among is = absurd among
any_among test x (y ∷ ys) (inl same) is = ap (λ (b : Bool). b || list_any test ys) (ap test (sym same) ∙ is)
any_among test x (y ∷ ys) (inr there) is = or_second (test y) (list_any test ys) (any_among test x ys there is)

-- an actor's records are those that it rose with, and those that it wrote since

joined : (l : Lifetime) (d : Deed) → l.kept ++ filter_map written_in (l.since ++ d ∷ []) ≡
    (l.kept ++ filter_map written_in l.since) ++ filter_map written_in (d ∷ [])
joined l d = ap (λ (rs : List Record). l.kept ++ rs) (filter_map-append written_in l.since (d ∷ []))
    ∙ sym (append_assoc l.kept (filter_map written_in l.since) (filter_map written_in (d ∷ [])))

silent : (l : Lifetime) (j : Journal) (d : Deed) → filter_map written_in (d ∷ []) ≡ []
    → j.records ≡ l.kept ++ filter_map written_in l.since
    → j.records ≡ l.kept ++ filter_map written_in (l.since ++ d ∷ [])
silent l j d none old = old ∙ sym (append-nil (l.kept ++ filter_map written_in l.since))
    ∙ ap (λ (rs : List Record). (l.kept ++ filter_map written_in l.since) ++ rs) (sym none) ∙ sym (joined l d)

record_next : (l : Lifetime) (j : Journal) (d : Deed) → j.records ≡ l.kept ++ filter_map written_in l.since
    → (journal_at j d).records ≡ (with_deed l d).kept ++ filter_map written_in (with_deed l d).since
record_next l j (Takes g) old = silent l j (Takes g) refl old
record_next l j (Writes w) old = ap (λ (rs : List Record). rs ++ w ∷ []) old ∙ sym (joined l (Writes w))
record_next l j (Sends n to m) old = silent l j (Sends n to m) refl old
record_next l j (Tells reply) old = silent l j (Tells reply) refl old
record_next l j (Falls cause pending) old = silent l j (Falls cause pending) refl old
record_next l j (Rises given) old = sym (append-nil given)

records_from : (ds : List Deed) (l : Lifetime) (j : Journal) → j.records ≡ l.kept ++ filter_map written_in l.since
    → (fold journal_at j ds).records ≡ (fold with_deed l ds).kept ++ filter_map written_in (fold with_deed l ds).since
records_from [] l j old = old
records_from (d ∷ ds) l j old = records_from ds (with_deed l d) (journal_at j d) (record_next l j d old)

pub records_are : (ds : List Deed) → (journal_after ds).records ≡ records_in ds
records_are ds = records_from ds (begun_with []) no_journal refl

-- a promise isn't over after deeds that write nothing against it, and take no Decision Aborted on it

other_end : (u tx : TxId) (verdict : Outcome) → (u ≡ tx → verdict ≡ outcomes.Aborted → ⊥)
    → (same_tx u tx && is_aborted verdict) ≡ false
other_end u tx verdict never = by (same_tx u tx) verdict refl refl
  where
    by : (b : Bool) (v : Outcome) → same_tx u tx ≡ b → verdict ≡ v → (b && is_aborted v) ≡ false
    by false v is same = refl
    by true (outcomes.Committed stamp) is same = refl
    by true outcomes.Aborted is same = absurd (never (same_tx_is u tx is) same)
    by true outcomes.Active is same = refl

message_over : (tx : TxId) (m : Message) → (m ≡ messages.Decision tx outcomes.Aborted → ⊥)
    → option_map_or (λ (x : Decided). same_tx x.tx tx && is_aborted x.verdict) (decision_in m) false ≡ false
message_over tx (messages.Request u epoch life want) never = refl
message_over tx (messages.Answer to answer) never = refl
message_over tx (messages.Decision u verdict) never =
    other_end u tx verdict (λ same aborted. never (λ i. messages.Decision (same i) (aborted i)))
message_over tx (messages.Inquiry u) never = refl
message_over tx (messages.Ask u) never = refl
message_over tx (messages.Close epoch) never = refl
message_over tx (messages.Install start) never = refl

taken_over : (tx : TxId) (g : Input) → ((e : Envelope) → g ≡ inputs.Got e
    → e.message ≡ messages.Decision tx outcomes.Aborted → ⊥) → frees tx (Takes g) ≡ false
taken_over tx (inputs.Called command) never = refl
taken_over tx (inputs.Got e) never = message_over tx e.message (never e refl)
taken_over tx (inputs.Lost number) never = refl

unfreed : (tx : TxId) (ds : List Deed) → list_any (redeems tx) (filter_map written_in ds) ≡ false
    → ((e : Envelope) → In (Takes (inputs.Got e)) ds → e.message ≡ messages.Decision tx outcomes.Aborted → ⊥)
    → is_over tx ds ≡ false
unfreed tx [] none never = refl
unfreed tx (Takes g ∷ ds) none never = both_false (frees tx (Takes g)) (is_over tx ds)
    (taken_over tx g (λ e is. never e (inl (ap (λ (x : Input). Takes x) (sym is)))))
    (unfreed tx ds none (λ e among. never e (inr among)))
unfreed tx (Writes w ∷ ds) none never = let both =
    or_parts (redeems tx w) (list_any (redeems tx) (filter_map written_in ds)) none in
    both_false (redeems tx w) (is_over tx ds) both.0 (unfreed tx ds both.1 (λ e among. never e (inr among)))
unfreed tx (Sends n to m ∷ ds) none never = unfreed tx ds none (λ e among. never e (inr among))
unfreed tx (Tells reply ∷ ds) none never = unfreed tx ds none (λ e among. never e (inr among))
unfreed tx (Falls cause pending ∷ ds) none never = unfreed tx ds none (λ e among. never e (inr among))
unfreed tx (Rises given ∷ ds) none never = unfreed tx ds none (λ e among. never e (inr among))

-- what deeds write

written_among : (r : Record) (ds : List Deed) → In (Writes r) ds → In r (filter_map written_in ds)
written_among r [] among = absurd among
written_among r (d ∷ ds) (inl same) = subst (λ (x : Deed). In r (filter_map written_in (x ∷ ds))) same (inl refl)
written_among r (d ∷ ds) (inr there) = more (written_in d) (written_among r ds there)
  where
    more : (o : Option Record) → In r (filter_map written_in ds) → In r (cons_option o (filter_map written_in ds))
    more None rest = rest
    more (Some w) rest = inr rest

record WrittenAt (ds : List Deed) (r : Record) (after : List Record) : Type 0 where
  first : List Deed
  rest : List Deed
  is : ds ≡ first ++ Writes r ∷ rest
  behind_it : filter_map written_in rest ≡ after

further : (d : Deed) (ds : List Deed) (r : Record) (after : List Record) → WrittenAt ds r after
    → WrittenAt (d ∷ ds) r after
further d ds r after w = record {
  first = d ∷ w.first;
  rest = w.rest;
  is = ap (λ (k : List Deed). d ∷ k) w.is;
  behind_it = w.behind_it;
}

written_at : (ds : List Deed) (m : List Record) (r : Record) (after : List Record)
    → filter_map written_in ds ≡ m ++ r ∷ after → WrittenAt ds r after
written_at [] [] r after is = absurd (let never : ⊥ = cc in never)
written_at [] (x ∷ m) r after is = absurd (let never : ⊥ = cc in never)
written_at (Takes g ∷ ds) m r after is = further (Takes g) ds r after (written_at ds m r after is)
written_at (Writes w ∷ ds) [] r after is = let same : w ≡ r = cc in
    record { first = []; rest = ds; is = λ i. Writes (same i) ∷ ds; behind_it = cc }
written_at (Writes w ∷ ds) (x ∷ m) r after is = further (Writes w) ds r after (written_at ds m r after (cc))
written_at (Sends n to message ∷ ds) m r after is = further (Sends n to message) ds r after (written_at ds m r after is)
written_at (Tells reply ∷ ds) m r after is = further (Tells reply) ds r after (written_at ds m r after is)
written_at (Falls cause pending ∷ ds) m r after is =
    further (Falls cause pending) ds r after (written_at ds m r after is)
written_at (Rises given ∷ ds) m r after is = further (Rises given) ds r after (written_at ds m r after is)

-- so a promise that stands is one of the site's

module _ (p : Prepared) where
  redeemed : list_any (redeems p.tx) (Prepare p ∷ []) ≡ true
  redeemed = ap (λ (b : Bool). b || false) (same_tx_itself p.tx)

  not_written : (rs : List Record) → list_any (redeems p.tx) rs ≡ false → In (Prepare p) rs → ⊥
  not_written rs none among = let some : list_any (redeems p.tx) rs ≡ true =
      any_among (redeems p.tx) (Prepare p) rs among (same_tx_itself p.tx) in let never : ⊥ = cc in never

  in_kept : (before m : List Record) → list_any (redeems p.tx) m ≡ false → In p (promises_of (before ++ Prepare p ∷ m))
  in_kept [] m none = subst (λ (b : Bool). In p (cond b [] (p ∷ []) ++ promises_of m)) (sym none) (inl refl)
  in_kept (r ∷ before) m none = In-second p
      (option_map_or (unless_redeemed (before ++ Prepare p ∷ m)) (prepare_in r) [])
      (promises_of (before ++ Prepare p ∷ m)) (in_kept before m none)

  in_left : (after : List Deed) (ps : List Prepared) → is_over p.tx after ≡ false → In p ps → In p (left_of after ps)
  in_left after [] none among = absurd among
  in_left after (q ∷ ps) none (inl same) =
      In-first p (unless_over after q) (left_of after ps)
      (subst (λ (x : Prepared). In p (unless_over after x)) same
      (subst (λ (b : Bool). In p (cond b [] (p ∷ []))) (sym none) (inl refl)))
  in_left after (q ∷ ps) none (inr there) =
      In-second p (unless_over after q) (left_of after ps) (in_left after ps none there)

  in_since : (x y : List Deed) → is_over p.tx y ≡ false → In p (promises_since (x ++ Writes (Prepare p) ∷ y))
  in_since [] y none = subst (λ (b : Bool). In p (cond b [] (p ∷ []) ++ promises_since y)) (sym none) (inl refl)
  in_since (d ∷ x) y none = In-second p (option_map_or (unless_over (x ++ Writes (Prepare p) ∷ y))
      (option_and_then prepare_in (written_in d)) []) (promises_since (x ++ Writes (Prepare p) ∷ y)) (in_since x y none)

  module _ (kept : List Record) (since : List Deed) (last : IsLastPromise (kept ++ filter_map written_in since) p)
      (unaborted : IsUnaborted since p) where
    -- it stood as the site rose
    had : (m : List Record) → kept ≡ last.before ++ Prepare p ∷ m → last.after ≡ m ++ filter_map written_in since
        → In p (left_of since (promises_of kept))
    had m is after =
        let none : list_any (redeems p.tx) (m ++ filter_map written_in since) ≡ false =
        subst (λ (rs : List Record). list_any (redeems p.tx) rs ≡ false) after last.unredeemed in
        in_left since (promises_of kept)
        (unfreed p.tx since (any_second (redeems p.tx) m (filter_map written_in since) none) (λ e among aborted. (
        let at = placed (Takes (inputs.Got e)) since among in
        not_written (filter_map written_in since) (any_second (redeems p.tx) m (filter_map written_in since) none)
        (written_among (Prepare p) since (subst (In (Writes (Prepare p))) (sym at.2)
        (In-second (Writes (Prepare p)) at.0 (Takes (inputs.Got e) ∷ at.1)
        (inr (unaborted at.0 at.1 e at.2 aborted))))))))
        (subst (λ (rs : List Record). In p (promises_of rs)) (sym is)
        (in_kept last.before m (any_first (redeems p.tx) m (filter_map written_in since) none)))

    -- it was written since
    new : (w : WrittenAt since (Prepare p) last.after) → In p (promises_since since)
    new w =
        let none : list_any (redeems p.tx) (filter_map written_in w.rest) ≡ false =
        subst (λ (rs : List Record). list_any (redeems p.tx) rs ≡ false) (sym w.behind_it) last.unredeemed in
        subst (λ (ds : List Deed). In p (promises_since ds)) (sym w.is)
        (in_since w.first w.rest
        (unfreed p.tx w.rest none (λ e among aborted. (
        let at = placed (Takes (inputs.Got e)) w.rest among in
        let there : since ≡ (w.first ++ Writes (Prepare p) ∷ at.0) ++ Takes (inputs.Got e) ∷ at.1 =
        w.is ∙ ap (λ (ds : List Deed). w.first ++ Writes (Prepare p) ∷ ds) at.2
        ∙ sym (append_assoc w.first (Writes (Prepare p) ∷ at.0) (Takes (inputs.Got e) ∷ at.1)) in
        not_written (filter_map written_in w.rest) none
        (written_among (Prepare p) w.rest (subst (In (Writes (Prepare p))) (sym at.2)
        (In-second (Writes (Prepare p)) at.0 (Takes (inputs.Got e) ∷ at.1)
        (inr (unaborted (w.first ++ Writes (Prepare p) ∷ at.0) at.1 e there aborted)))))))))

    pub among_promises : In p (left_of since (promises_of kept) ++ promises_since since)
    among_promises = elim (split kept (filter_map written_in since) last.before (Prepare p) last.after last.stands) [
      | First m is after ↦ In-first p (left_of since (promises_of kept)) (promises_since since) (had m is after)
      | Second m front back ↦ In-second p (left_of since (promises_of kept)) (promises_since since)
          (new (written_at since m (Prepare p) last.after back))
    ]
