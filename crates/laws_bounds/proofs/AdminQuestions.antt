-- The questions that the administrator asks about, and that the Asks of a turn are about the first questions without
-- numbers, one after another.
use Rattle.std.specs.Prelude.{if◌then◌else◌}
use Rattle.std.proofs.Common.{◌≡◌, ◌&&◌, refl, zero, suc, ℕ, true, is_none, List, [], ◌∷◌, map, take, Option, Some}
use Rattle.std.proofs.Common.{None}
use Rattle.qc_decl.specs.declared.declaration.Declaration.{Declaration}
use Rattle.qc_epoch.specs.Vocabulary.{Asking, Closing, Doing, Installing, Question, Resting}
use Rattle.qc_epoch.specs.Conduct as admins
use Rattle.qc_msg.specs.declared.message.Message.TheVariants as messages
use Rattle.qc_msg.specs.declared.turn.Posting.{Posting}
use Rattle.qc_stamp.specs.declared.stamp.TxId.{TxId}
use Rattle.qc_admin.specs.Vocabulary.{is_unasked}

abbrev pub questions_in : Doing → List Question
questions_in Resting = []
questions_in (Closing epoch calls round shuts) = []
questions_in (Asking epoch shuts questions) = questions
questions_in (Installing closed awaits calls installed) = []

-- the question that the next Ask is about
abbrev pub first_unnumbered : List Question → Option Question
first_unnumbered [] = None
first_unnumbered (q ∷ qs) = if is_none q.number then Some q else first_unnumbered qs

-- these messages are Asks about the first questions without numbers, one after another

abbrev LinedOne : Option ℕ → TxId → (List Posting → Type 0) → List Posting → Type 0
LinedOne (Some number) tx rest ps = rest ps
LinedOne None tx rest [] = Unit {0}
LinedOne None tx rest (p ∷ ps) = (p.message ≡ messages.Ask tx) × rest ps

abbrev pub AreLined : List Question → List Posting → Type 0
AreLined [] ps = Unit {0}
AreLined (q ∷ qs) ps = LinedOne q.number q.tx (AreLined qs) ps

pub none_lined : (qs : List Question) → AreLined qs []
none_lined [] = tt
none_lined (q ∷ qs) = by q.number (none_lined qs)
  where
    by : (o : Option ℕ) → AreLined qs [] → LinedOne o q.tx (AreLined qs) []
    by None rest = tt
    by (Some number) rest = rest

pub asks_lined : (decl : Declaration) (n : ℕ) (qs : List Question) → is_unasked qs ≡ true
    → AreLined qs (map (admins.ask_of decl) (take n qs))
asks_lined decl n [] fresh = tt
asks_lined decl zero (q ∷ qs) fresh = none_lined (q ∷ qs)
asks_lined decl (suc n) (q ∷ qs) fresh = by q.number fresh (λ later. asks_lined decl n qs later)
  where
    by : (o : Option ℕ) → (is_none o && is_unasked qs) ≡ true
        → (is_unasked qs ≡ true → AreLined qs (map (admins.ask_of decl) (take n qs)))
        → LinedOne o q.tx (AreLined qs) (admins.ask_of decl q ∷ map (admins.ask_of decl) (take n qs))
    by None later rest = (refl, rest later)
    by (Some number) later rest = absurd (let never : ⊥ = cc in never)
