-- The records of a rise: what the promise reads off them is what the conduct's site has of them.
use Rattle.std.proofs.Common.{◌≡◌, ℕ, max, Bool, true, false, cond, List, [], ◌∷◌, ◌++◌, fold, Option, Some, None, refl}
use Rattle.std.proofs.Common.{ap, sym, subst, ◌∙◌}
use Rattle.std.specs.List.{flat_map}
use Rattle.std.specs.Option.{option_map_or, option_or}
use Rattle.std.proofs.lemmas.List.Sums.{fold-append}
use Rattle.std.proofs.lemmas.List.Folds.{fold-map, find-append}
use Rattle.qc_stamp.specs.declared.stamp.TxId.{TxId}
use Rattle.qc_stamp.specs.Vocabulary.{first_life, same_tx}
use Rattle.qc_stamp.proofs.Orders.{same_tx_is}
use Rattle.qc_entry.specs.declared.line.Line.{Line}
use Rattle.qc_entry.specs.declared.record.Prepared.{Prepared}
use Rattle.qc_msg.specs.declared.record.Record.{Record}
use Rattle.qc_msg.specs.declared.record.Record.TheVariants as journals
use Rattle.qc_msg.specs.Vocabulary.{first_epoch}
use Rattle.qc_site.specs.Vocabulary.{lines_of, prepared_of, without_prepared}
use Rattle.qc_site.proofs.Votes.{prepared-without, prepared-without_other}
use Rattle.qc_recover.specs.Vocabulary.{Kept, done_stamp, keeps, kept_by, nothing_kept}
use Rattle.qc_promise.specs.Vocabulary.{Lines, clocks_in_record, clocks_of, closed_by, epoch_by, last_prepare, learning}
use Rattle.qc_promise.specs.Vocabulary.{life_by, prepare_by, promises_of, recorded_by, recorded_from}
use Rattle.qc_promise.proofs.Promises.{promises_by_record, promises_with}
use Rattle.qc_promise.proofs.Posts.{learning-nil}

-- life, epoch, closed epoch

life_kept : (k : Kept) (rs : List Record) → fold life_by k.life rs ≡ (fold keeps k rs).life
life_kept k [] = refl
life_kept k (journals.Life ∷ rs) = life_kept (keeps k journals.Life) rs
life_kept k (journals.Prepare p ∷ rs) = life_kept (keeps k (journals.Prepare p)) rs
life_kept k (journals.Done tx clock ∷ rs) = life_kept (keeps k (journals.Done tx clock)) rs
life_kept k (journals.Close epoch ∷ rs) = life_kept (keeps k (journals.Close epoch)) rs
life_kept k (journals.Install start ∷ rs) = life_kept (keeps k (journals.Install start)) rs
life_kept k (journals.Commit c ∷ rs) = life_kept (keeps k (journals.Commit c)) rs
life_kept k (journals.Decide start ∷ rs) = life_kept (keeps k (journals.Decide start)) rs

pub life_by_records : (rs : List Record) → fold life_by first_life rs ≡ (kept_by rs).life
life_by_records rs = life_kept nothing_kept rs

epoch_kept : (k : Kept) (rs : List Record) → fold epoch_by k.epoch rs ≡ (fold keeps k rs).epoch
epoch_kept k [] = refl
epoch_kept k (journals.Life ∷ rs) = epoch_kept (keeps k journals.Life) rs
epoch_kept k (journals.Prepare p ∷ rs) = epoch_kept (keeps k (journals.Prepare p)) rs
epoch_kept k (journals.Done tx clock ∷ rs) = epoch_kept (keeps k (journals.Done tx clock)) rs
epoch_kept k (journals.Close epoch ∷ rs) = epoch_kept (keeps k (journals.Close epoch)) rs
epoch_kept k (journals.Install start ∷ rs) = epoch_kept (keeps k (journals.Install start)) rs
epoch_kept k (journals.Commit c ∷ rs) = epoch_kept (keeps k (journals.Commit c)) rs
epoch_kept k (journals.Decide start ∷ rs) = epoch_kept (keeps k (journals.Decide start)) rs

pub epoch_by_records : (rs : List Record) → fold epoch_by first_epoch rs ≡ (kept_by rs).epoch
epoch_by_records rs = epoch_kept nothing_kept rs

closed_kept : (k : Kept) (rs : List Record) → fold closed_by k.closed_for rs ≡ (fold keeps k rs).closed_for
closed_kept k [] = refl
closed_kept k (journals.Life ∷ rs) = closed_kept (keeps k journals.Life) rs
closed_kept k (journals.Prepare p ∷ rs) = closed_kept (keeps k (journals.Prepare p)) rs
closed_kept k (journals.Done tx clock ∷ rs) = closed_kept (keeps k (journals.Done tx clock)) rs
closed_kept k (journals.Close epoch ∷ rs) = closed_kept (keeps k (journals.Close epoch)) rs
closed_kept k (journals.Install start ∷ rs) = closed_kept (keeps k (journals.Install start)) rs
closed_kept k (journals.Commit c ∷ rs) = closed_kept (keeps k (journals.Commit c)) rs
closed_kept k (journals.Decide start ∷ rs) = closed_kept (keeps k (journals.Decide start)) rs

pub closed_by_records : (rs : List Record) → fold closed_by None rs ≡ (kept_by rs).closed_for
closed_by_records rs = closed_kept nothing_kept rs

-- the clock

clock_kept : (k : Kept) (rs : List Record) → fold max k.clock (flat_map clocks_in_record rs) ≡ (fold keeps k rs).clock
clock_kept k [] = refl
clock_kept k (journals.Life ∷ rs) = clock_kept (keeps k journals.Life) rs
clock_kept k (journals.Prepare p ∷ rs) =
    fold-append max k.clock (clocks_of p.lines) (flat_map clocks_in_record rs)
    ∙ ap (λ (c : ℕ). fold max c (flat_map clocks_in_record rs))
    (fold-map max (λ (l : Line). l.stamp.clock) k.clock p.lines)
    ∙ clock_kept (keeps k (journals.Prepare p)) rs
clock_kept k (journals.Done tx clock ∷ rs) = clock_kept (keeps k (journals.Done tx clock)) rs
clock_kept k (journals.Close epoch ∷ rs) = clock_kept (keeps k (journals.Close epoch)) rs
clock_kept k (journals.Install start ∷ rs) =
    fold-append max k.clock (clocks_of start.lines ++ start.clock ∷ []) (flat_map clocks_in_record rs)
    ∙ ap (λ (c : ℕ). fold max c (flat_map clocks_in_record rs))
    (fold-append max k.clock (clocks_of start.lines) (start.clock ∷ [])
    ∙ ap (λ (c : ℕ). max c start.clock) (fold-map max (λ (l : Line). l.stamp.clock) k.clock start.lines))
    ∙ clock_kept (keeps k (journals.Install start)) rs
clock_kept k (journals.Commit c ∷ rs) = clock_kept (keeps k (journals.Commit c)) rs
clock_kept k (journals.Decide start ∷ rs) = clock_kept (keeps k (journals.Decide start)) rs

pub clock_by_records : (rs : List Record) → fold max 0 (flat_map clocks_in_record rs) ≡ (kept_by rs).clock
clock_by_records rs = clock_kept nothing_kept rs

-- the last promise of each transaction

abbrev Agrees : Kept → List Record → Type 0
Agrees k before = (tx : TxId) → last_prepare tx before ≡ prepared_of k.prepares tx

last_after : (tx : TxId) (before : List Record) (r : Record)
    → last_prepare tx (before ++ r ∷ []) ≡ prepare_by tx (last_prepare tx before) r
last_after tx before r = fold-append (prepare_by tx) None before (r ∷ [])

or_none : (o : Option Prepared) → option_or o None ≡ o
or_none None = refl
or_none (Some p) = refl

promised_last : (ps : List Prepared) (p : Prepared) (tx : TxId) (last : Option Prepared) → last ≡ prepared_of ps tx
    → option_or (cond (same_tx p.tx tx) (Some p) None) last ≡ prepared_of (without_prepared ps p.tx ++ p ∷ []) tx
promised_last ps p tx last agree =
    by (same_tx p.tx tx) refl ∙ sym (find-append (λ (q : Prepared). same_tx q.tx tx) (without_prepared ps p.tx)
    (p ∷ []))
  where
    by : (b : Bool) → same_tx p.tx tx ≡ b → option_or (cond b (Some p) None) last ≡ option_or
        (prepared_of (without_prepared ps p.tx) tx) (cond b (Some p) None)
    by true is =
        let none : prepared_of (without_prepared ps p.tx) tx ≡ None =
        subst (λ (t : TxId). prepared_of (without_prepared ps p.tx) t ≡ None) (same_tx_is p.tx tx is)
        (prepared-without ps p.tx) in
        sym (ap (λ (o : Option Prepared). option_or o (Some p)) none)
    by false is = agree ∙ sym (or_none (prepared_of (without_prepared ps p.tx) tx)
        ∙ prepared-without_other ps p.tx tx is)

agrees_after : (k : Kept) (before : List Record) (r : Record) → Agrees k before → Agrees (keeps k r) (before ++ r ∷ [])
agrees_after k before journals.Life agree tx = last_after tx before journals.Life ∙ agree tx
agrees_after k before (journals.Prepare p) agree tx =
    last_after tx before (journals.Prepare p) ∙ promised_last k.prepares p tx (last_prepare tx before) (agree tx)
agrees_after k before (journals.Done t clock) agree tx = last_after tx before (journals.Done t clock) ∙ agree tx
agrees_after k before (journals.Close epoch) agree tx = last_after tx before (journals.Close epoch) ∙ agree tx
agrees_after k before (journals.Install start) agree tx =
    last_after tx before (journals.Install start)
agrees_after k before (journals.Commit c) agree tx = last_after tx before (journals.Commit c) ∙ agree tx
agrees_after k before (journals.Decide start) agree tx =
    last_after tx before (journals.Decide start) ∙ agree tx

-- the lines

abbrev lines_in : Kept → Lines
lines_in k = record { began = k.began; since = k.lines }

lines_kept : (k : Kept) (before rs : List Record) → Agrees k before
    → recorded_from (lines_in k) before rs ≡ lines_in (fold keeps k rs)
lines_kept k before [] agree = refl
lines_kept k before (journals.Life ∷ rs) agree =
    ap (λ (l : Lines). recorded_from l (before ++ journals.Life ∷ []) rs) (learning-nil (lines_in k))
    ∙ lines_kept (keeps k journals.Life) (before ++ journals.Life ∷ []) rs (agrees_after k before journals.Life agree)
lines_kept k before (journals.Prepare p ∷ rs) agree =
    lines_kept (keeps k (journals.Prepare p)) (before ++ journals.Prepare p ∷ []) rs
    (agrees_after k before (journals.Prepare p) agree)
lines_kept k before (journals.Done tx clock ∷ rs) agree =
    ap (λ (o : Option Prepared). recorded_from
    (learning (lines_in k) (option_map_or (λ (p : Prepared). lines_of (done_stamp tx clock) tx p.own) o []))
    (before ++ journals.Done tx clock ∷ []) rs) (agree tx)
    ∙ lines_kept (keeps k (journals.Done tx clock)) (before ++ journals.Done tx clock ∷ []) rs
    (agrees_after k before (journals.Done tx clock) agree)
lines_kept k before (journals.Close epoch ∷ rs) agree =
    ap (λ (l : Lines). recorded_from l (before ++ journals.Close epoch ∷ []) rs) (learning-nil (lines_in k))
    ∙ lines_kept (keeps k (journals.Close epoch)) (before ++ journals.Close epoch ∷ []) rs
    (agrees_after k before (journals.Close epoch) agree)
lines_kept k before (journals.Install start ∷ rs) agree =
    lines_kept (keeps k (journals.Install start)) (before ++ journals.Install start ∷ []) rs
    (agrees_after k before (journals.Install start) agree)
lines_kept k before (journals.Commit c ∷ rs) agree =
    ap (λ (l : Lines). recorded_from l (before ++ journals.Commit c ∷ []) rs) (learning-nil (lines_in k))
    ∙ lines_kept (keeps k (journals.Commit c)) (before ++ journals.Commit c ∷ []) rs
    (agrees_after k before (journals.Commit c) agree)
lines_kept k before (journals.Decide start ∷ rs) agree =
    ap (λ (l : Lines). recorded_from l (before ++ journals.Decide start ∷ []) rs)
    (learning-nil (lines_in k))
    ∙ lines_kept (keeps k (journals.Decide start)) (before ++ journals.Decide start ∷ []) rs
    (agrees_after k before (journals.Decide start) agree)

pub lines_by_records : (rs : List Record)
    → recorded_by rs ≡ record { began = (kept_by rs).began; since = (kept_by rs).lines }
lines_by_records rs = lines_kept nothing_kept [] rs (λ tx. refl)

-- promises

same_promises : (k : Kept) (rs : List Record) → fold promises_with k.promises rs ≡ (fold keeps k rs).promises
same_promises k [] = refl
same_promises k (journals.Life ∷ rs) = same_promises (keeps k journals.Life) rs
same_promises k (journals.Prepare p ∷ rs) = same_promises (keeps k (journals.Prepare p)) rs
same_promises k (journals.Done tx clock ∷ rs) = same_promises (keeps k (journals.Done tx clock)) rs
same_promises k (journals.Close epoch ∷ rs) = same_promises (keeps k (journals.Close epoch)) rs
same_promises k (journals.Install start ∷ rs) =
    same_promises (keeps k (journals.Install start)) rs
same_promises k (journals.Commit c ∷ rs) = same_promises (keeps k (journals.Commit c)) rs
same_promises k (journals.Decide start ∷ rs) =
    same_promises (keeps k (journals.Decide start)) rs

pub promises_by_records : (rs : List Record) → promises_of rs ≡ (kept_by rs).promises
promises_by_records rs = promises_by_record rs ∙ same_promises nothing_kept rs
