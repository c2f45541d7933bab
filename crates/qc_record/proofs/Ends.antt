-- A record's spelling that is cut is refused at its end, and one with bytes behind it at the first of them. So no
-- spelling is a prefix of another.
use Rattle.std.proofs.Common.{◌≡◌, ℕ, zero, suc, ◌+◌, ◌-◌, ◌<◌, ◌≤◌, Bool, true, false, cond, ◌==◌, nat_eq, List, []}
use Rattle.std.proofs.Common.{◌∷◌, ◌++◌, length, take, Result, Ok, Err, refl, sym, ap, ◌∙◌, arith}
use Rattle.std.proofs.lemmas.List.{append-nil, length-append, length-take-le}
use Rattle.std.proofs.lemmas.Bool.Decides.{nat_tests}
use Rattle.qc_msg.specs.declared.record.Record.{Record}
use Rattle.qc_msg.specs.declared.record.Record.TheVariants as records
use Rattle.qc_record.specs.declared.fault.RecordFault.{RecordFault}
use Rattle.qc_record.specs.declared.fault.RecordFault.TheVariants as faults
use Rattle.qc_record.specs.Vocabulary.{Form, all_of, body_at, commit_form, decide_of, done_form, done_of, epoch_form}
use Rattle.qc_record.specs.Vocabulary.{install_of, is_legal, nothing, placed, prepared_form, record_at, spelled}
use Rattle.qc_record.specs.Vocabulary.{start_form, whole_at, ◌>>=◌}
use Rattle.qc_record.proofs.Cuts.{ends_first}
use Rattle.qc_record.proofs.Exact.{epoch_exact, prepared_exact, done_exact, start_exact, commit_exact}
use Rattle.qc_record.proofs.Exactness.{IsExact, nothing_exact}
use Rattle.qc_record.proofs.Frames.{spellings_are_apart}
use Rattle.qc_record.proofs.Whole.{again, found}

abbrev torn : ℕ → Result Record RecordFault
torn offset = Err (faults.Torn offset)

-- one kind

whole_cut : {A : Type 0} (shape : A → Record) (form : Form A) → IsExact form → (x : A) (n : ℕ) → form.is_legal x ≡ true
    → n < length (form.spelled x) → whole_at shape form (take n (form.spelled x)) ≡ torn (suc n)
whole_cut shape form exact x n legal inside =
    let bytes = take n (form.spelled x) in
    let size : length bytes ≡ n = length-take-le n (form.spelled x) (omega (arith, inside)) in
    let read : all_of (body_at shape form bytes) ≡ Err 0 =
    ends_first (body_at shape form bytes) _ (ends_first (form.read bytes) _ (exact.cut x n legal inside)) in
    let at : length bytes + 1 - 0 ≡ suc n = omega (arith, size) in
    ap (placed (length bytes + 1)) read ∙ ap torn at

whole_behind : {A : Type 0} (shape : A → Record) (form : Form A) → IsExact form → (x : A) (b : ℕ) (rest : List ℕ)
    → form.is_legal x ≡ true → whole_at shape form (form.spelled x ++ b ∷ rest) ≡ torn (suc (length (form.spelled x)))
whole_behind shape form exact x b rest legal =
    let bytes = form.spelled x ++ b ∷ rest in
    let both : length bytes ≡ length (form.spelled x) + length (b ∷ rest) = length-append (form.spelled x) (b ∷ rest) in
    let body : body_at shape form bytes ≡ Ok (shape x, b ∷ rest) =
    ap (λ r. r >>= λ p. Ok (shape p.0, p.1)) (exact.again x (b ∷ rest) legal) in
    let some : nat_eq (length (b ∷ rest)) 0 ≡ false = grind (arith, nat_tests) in
    let one : all_of (Ok (shape x, b ∷ rest)) ≡ Err (length (b ∷ rest)) =
    ap (λ (t : Bool). cond t (Ok (shape x)) (Err (length (b ∷ rest)))) some in
    let read : all_of (body_at shape form bytes) ≡ Err (length (b ∷ rest)) = ap all_of body ∙ one in
    let at : length bytes + 1 - length (b ∷ rest) ≡ suc (length (form.spelled x)) = omega (arith, both) in
    ap (placed (length bytes + 1)) read ∙ ap torn at

pub cut_spellings_are_refused : (rec : Record) (n : ℕ) → is_legal rec ≡ true → n < length (spelled rec)
    → record_at (take n (spelled rec)) ≡ torn n
cut_spellings_are_refused rec zero legal inside = refl
cut_spellings_are_refused records.Life (suc n) legal inside = absurd (omega (arith, inside))
cut_spellings_are_refused (records.Prepare p) (suc n) legal inside =
    whole_cut records.Prepare prepared_form prepared_exact p n legal (omega (arith, inside))
cut_spellings_are_refused (records.Done tx clock) (suc n) legal inside =
    whole_cut done_of done_form done_exact (tx, clock) n legal (omega (arith, inside))
cut_spellings_are_refused (records.Close epoch) (suc n) legal inside =
    whole_cut records.Close epoch_form epoch_exact epoch n legal (omega (arith, inside))
cut_spellings_are_refused (records.Install start) (suc n) legal inside =
    whole_cut install_of start_form start_exact (start.epoch, (start.clock, start.lines)) n legal
    (omega (arith, inside))
cut_spellings_are_refused (records.Commit c) (suc n) legal inside =
    whole_cut records.Commit commit_form commit_exact c n legal (omega (arith, inside))
cut_spellings_are_refused (records.Decide start) (suc n) legal inside =
    whole_cut decide_of start_form start_exact (start.epoch, (start.clock, start.lines)) n legal (omega (arith, inside))

pub longer_spellings_are_refused : (rec : Record) (b : ℕ) (rest : List ℕ) → is_legal rec ≡ true
    → record_at (spelled rec ++ b ∷ rest) ≡ torn (length (spelled rec))
longer_spellings_are_refused records.Life b rest legal =
    whole_behind (λ _. records.Life) nothing nothing_exact tt b rest refl
longer_spellings_are_refused (records.Prepare p) b rest legal =
    whole_behind records.Prepare prepared_form prepared_exact p b rest legal
longer_spellings_are_refused (records.Done tx clock) b rest legal =
    whole_behind done_of done_form done_exact (tx, clock) b rest legal
longer_spellings_are_refused (records.Close epoch) b rest legal =
    whole_behind records.Close epoch_form epoch_exact epoch b rest legal
longer_spellings_are_refused (records.Install start) b rest legal =
    whole_behind install_of start_form start_exact (start.epoch, (start.clock, start.lines)) b rest legal
longer_spellings_are_refused (records.Commit c) b rest legal =
    whole_behind records.Commit commit_form commit_exact c b rest legal
longer_spellings_are_refused (records.Decide start) b rest legal =
    whole_behind decide_of start_form start_exact (start.epoch, (start.clock, start.lines)) b rest legal

pub no_spelling_is_a_prefix : (a b : Record) (rest : List ℕ) → is_legal a ≡ true → is_legal b ≡ true
    → spelled a ++ rest ≡ spelled b
    → a ≡ b
no_spelling_is_a_prefix a b [] la lb e = spellings_are_apart a b la lb (sym (append-nil (spelled a)) ∙ e)
no_spelling_is_a_prefix a b (c ∷ rest) la lb e =
    let no : torn (length (spelled a)) ≡ found b =
    sym (longer_spellings_are_refused a c rest la) ∙ ap record_at e ∙ again b lb in
    absurd cc

-- kinds

skipped : {X : Type 0} (b : Bool) (x y z : X) → b ≡ false → y ≡ z → cond b x y ≡ z
skipped true x y z e h = absurd cc
skipped false x y z e h = h

not_kind : (n kind : ℕ) → n < kind → (kind == n) ≡ false
not_kind n kind h = grind (arith, nat_tests, h)

pub no_kind : (kind : ℕ) (rest : List ℕ) → 7 < kind → record_at (kind ∷ rest) ≡ Err (faults.Unknown kind)
no_kind kind rest h =
    let above : (n : ℕ) → n ≤ 7 → (kind == n) ≡ false = λ n low. not_kind n kind (omega (arith, h, low)) in
    skipped (kind == 1) _ _ _ (above 1 (omega arith))
    (skipped (kind == 2) _ _ _ (above 2 (omega arith))
    (skipped (kind == 3) _ _ _ (above 3 (omega arith)) (skipped (kind == 4) _ _ _ (above 4 (omega arith))
    (skipped (kind == 5) _ _ _ (above 5 (omega arith))
    (skipped (kind == 6) _ _ _ (above 6 (omega arith)) (skipped (kind == 7) _ _ _ (above 7 (omega arith)) refl))))))
