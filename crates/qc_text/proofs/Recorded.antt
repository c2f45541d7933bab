-- What records show, one deed or one record on: life, epoch, the last Prepare, and the lines.
use Rattle.std.proofs.Common.{◌≡◌, ℕ, Bor, ◌+◌, ◌<◌, Bool, true, false, List, [], ◌∷◌, ◌++◌, Some, None, length, get_or}
use Rattle.std.proofs.Common.{map, take, drop, sym, ap, refl, ◌∙◌, cond, Option}
use Rattle.std.specs.Prelude.{fold, option_map}
use Rattle.std.specs.List.{cons_option, filter_map}
use Rattle.std.specs.Option.{option_map_or, option_or}
use Rattle.std.specs.BTreeMap.{is_at}
use Rattle.std.proofs.lemmas.List.Sums.{fold-append}
use Rattle.qc_stamp.specs.declared.stamp.TxId.{TxId}
use Rattle.qc_stamp.specs.Vocabulary.{same_tx, tx_cmp}
use Rattle.qc_entry.specs.declared.line.Line.{Line}
use Rattle.qc_entry.specs.declared.record.Prepared.{Prepared}
use Rattle.qc_entry.proofs.Union.{union-nil}
use Rattle.qc_msg.specs.declared.record.Record.{Record}
use Rattle.qc_msg.specs.declared.record.Record.TheVariants as journals
use Rattle.qc_msg.specs.Vocabulary.{Deed, written_in}
use Rattle.qc_promise.specs.Vocabulary.{Lines, done_lines, epoch_by, last_prepare, learning, life_by, lines_from}
use Rattle.qc_promise.specs.Vocabulary.{lines_of, prepare_by, recorded_from, with_given, with_joined, with_written}
use Rattle.qc_text.specs.Vocabulary.{deed_of, epoch_at, life_at}
use Rattle.qc_text.specs.declared.deeds.Deed.{Deed as Found}
use Rattle.qc_text.proofs.Found.{found_rest}
use Rattle.qc_text.proofs.More.{more}
use Rattle.qc_text.proofs.Alike.{same_key}
use Rattle.qc_list.proofs.Places.{drop_at}

-- life and epoch, by deeds

by_deed : {A : Type 0} (f : A → Record → A) (a : A) (d : Deed) (ds : List Deed)
    → fold f a (filter_map written_in (d ∷ ds)) ≡ fold f (option_map_or (f a) (written_in d) a)
    (filter_map written_in ds)
by_deed {A = A} f a d ds = by (written_in d)
  where
    by : (o : Option Record) → fold f a (cons_option o (filter_map written_in ds)) ≡ fold f (option_map_or (f a) o a)
        (filter_map written_in ds)
    by None = refl
    by (Some w) = refl

pub life_more : (xs : List Found) (i : ℕ) (x d : Found) (life after all : ℕ) → i < length xs → x ≡ get_or xs i d
    → after ≡ life_at life (deed_of x)
    → fold life_by life (filter_map written_in (map deed_of (drop i xs))) ≡ all
    → fold life_by after (filter_map written_in (map deed_of (drop (i + 1) xs))) ≡ all
life_more xs i x d life after all l e a known =
    ap (λ n. fold life_by n (filter_map written_in (map deed_of (drop (i + 1) xs)))) a
    ∙ sym (by_deed life_by life (deed_of x) (map deed_of (drop (i + 1) xs)))
    ∙ ap (λ ds. fold life_by life (filter_map written_in ds)) (sym (found_rest xs i x d l e))
    ∙ known

pub epoch_more : (xs : List Found) (i : ℕ) (x d : Found) (epoch after all : ℕ) → i < length xs → x ≡ get_or xs i d
    → after ≡ epoch_at epoch (deed_of x)
    → fold epoch_by epoch (filter_map written_in (map deed_of (drop i xs))) ≡ all
    → fold epoch_by after (filter_map written_in (map deed_of (drop (i + 1) xs))) ≡ all
epoch_more xs i x d epoch after all l e a known =
    ap (λ n. fold epoch_by n (filter_map written_in (map deed_of (drop (i + 1) xs)))) a
    ∙ sym (by_deed epoch_by epoch (deed_of x) (map deed_of (drop (i + 1) xs)))
    ∙ ap (λ ds. fold epoch_by epoch (filter_map written_in ds)) (sym (found_rest xs i x d l e))
    ∙ known

-- any fold over records, one on
pub fold_more : {A : Type 0} (f : A → Record → A) (rs : List Record) (i : ℕ) (r d : Record) (a after all : A)
    → i < length rs → r ≡ get_or rs i d → after ≡ f a r → fold f a (drop i rs) ≡ all
    → fold f after (drop (i + 1) rs) ≡ all
fold_more f rs i r d a after all l e is known =
    ap (λ v. fold f v (drop (i + 1) rs)) is ∙ ap (fold f a) (sym (drop_at rs i r d l e)) ∙ known

-- the last Prepare, a record more

pub last_more : (tx : TxId) (rs : List Record) (r : Record)
    → last_prepare tx (rs ++ r ∷ []) ≡ prepare_by tx (last_prepare tx rs) r
last_more tx rs r = fold-append (prepare_by tx) None rs (r ∷ [])

-- a map has the last Prepares, as a function from names

abbrev Last : (TxId → Option (Bor Prepared)) → List Record → Type 0
Last f rs = (tx : TxId) → option_map (λ (p : Bor Prepared). p.now) (f tx) ≡ last_prepare tx rs

shown : (b : Bool) (p : Bor Prepared) (before : Option (Bor Prepared))
    → option_map (λ (q : Bor Prepared). q.now) (cond b (Some p) before) ≡ option_or (cond b (Some p.now) None)
    (option_map (λ (q : Bor Prepared). q.now) before)
shown true p before = refl
shown false p before = refl

pub last_with : (f g : TxId → Option (Bor Prepared)) (rs : List Record) (r : Record) (p : Bor Prepared)
    → r ≡ journals.Prepare p.now
    → ((tx : TxId) → g tx ≡ cond (is_at (tx_cmp p.now.tx) tx) (Some p) (f tx))
    → Last f rs → Last g (rs ++ r ∷ [])
last_with f g rs r p is put last tx =
    ap (option_map (λ (q : Bor Prepared). q.now)) (put tx)
    ∙ shown (is_at (tx_cmp p.now.tx) tx) p (f tx)
    ∙ ap (λ (b : Bool). option_or (cond b (Some p.now) None) (option_map (λ (q : Bor Prepared). q.now) (f tx)))
    (same_key p.now.tx tx)
    ∙ ap (λ (o : Option Prepared). option_or (cond (same_tx p.now.tx tx) (Some p.now) None) o) (last tx)
    ∙ ap (λ (w : Record). prepare_by tx (last_prepare tx rs) w) (sym is)
    ∙ sym (last_more tx rs r)

pub last_without : (f : TxId → Option (Bor Prepared)) (rs : List Record) (r : Record)
    → ((tx : TxId) (o : Option Prepared) → prepare_by tx o r ≡ o) → Last f rs → Last f (rs ++ r ∷ [])
last_without f rs r none_here last tx = last tx ∙ sym (none_here tx (last_prepare tx rs)) ∙ sym (last_more tx rs r)

pub last_none : (f : TxId → Option (Bor Prepared)) (rs : List Record) (r : Record)
    → ((tx : TxId) (o : Option Prepared) → prepare_by tx o r ≡ None) → ((tx : TxId) → f tx ≡ None)
    → Last f (rs ++ r ∷ [])
last_none f rs r drops none tx = ap (option_map (λ (q : Bor Prepared). q.now)) (none tx)
    ∙ sym (drops tx (last_prepare tx rs)) ∙ sym (last_more tx rs r)

-- a Done gives the lines of the last Prepare, and without one nothing

pub learn_none : (l : Lines) → learning l [] ≡ l
learn_none l = ap (λ (v : List Line). record l { since = v }) (union-nil l.since)

pub done_some : (before : List Record) (tx : TxId) (clock : ℕ) (l : Lines) (p : Prepared)
    → Some p ≡ last_prepare tx before
    → learning l (lines_of (record { clock = clock; client = tx.client }) tx p.own) ≡ learning l
    (done_lines before (record { tx = tx; clock = clock }))
done_some before tx clock l p found =
    ap (λ (o : Option Prepared). learning l (option_map_or
    (λ (q : Prepared). lines_of (record { clock = clock; client = tx.client }) tx q.own) o [])) found

pub done_nothing : (before : List Record) (tx : TxId) (clock : ℕ) (l : Lines) → None ≡ last_prepare tx before
    → l ≡ learning l (done_lines before (record { tx = tx; clock = clock }))
done_nothing before tx clock l none_found =
    sym (learn_none l)
    ∙ ap (λ (o : Option Prepared). learning l
    (option_map_or (λ (q : Prepared). lines_of (record { clock = clock; client = tx.client }) tx q.own) o []))
    none_found

-- the lines, by records
pub given_more : (rs : List Record) (i : ℕ) (r d : Record) (l after all : Lines) → i < length rs → r ≡ get_or rs i d
    → after ≡ with_given l (take i rs) r
    → recorded_from l (take i rs) (drop i rs) ≡ all
    → recorded_from after (take (i + 1) rs) (drop (i + 1) rs) ≡ all
given_more rs i r d l after all within e is known =
    ap (λ (v : Lines). recorded_from v (take (i + 1) rs) (drop (i + 1) rs)) is
    ∙ ap (λ (v : List Record). recorded_from (with_given l (take i rs) r) v (drop (i + 1) rs)) (more rs i r d within e)
    ∙ ap (λ (v : List Record). recorded_from l (take i rs) v) (sym (drop_at rs i r d within e))
    ∙ known

-- by deeds, after these records
pub lines_more : (xs : List Found) (i : ℕ) (x d : Found) (before : List Record) (l after all : Lines) → i < length xs
    → x ≡ get_or xs i d
    → after ≡ with_joined l before (deed_of x) (map deed_of (drop (i + 1) xs))
    → lines_from l before (map deed_of (drop i xs)) ≡ all
    → lines_from after (with_written before (deed_of x)) (map deed_of (drop (i + 1) xs)) ≡ all
lines_more xs i x d before l after all within e a known =
    ap (λ (v : Lines). lines_from v (with_written before (deed_of x)) (map deed_of (drop (i + 1) xs))) a
    ∙ ap (λ (v : List Deed). lines_from l before v) (sym (found_rest xs i x d within e))
    ∙ known
