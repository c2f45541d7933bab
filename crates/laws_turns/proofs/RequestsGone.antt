-- A request that is answered, or is lost, is open no more at its front end, and no other request is opened by that.
use Rattle.std.proofs.Common.{◌≡◌, ℕ, ◌==◌, not, Bool, true, false, if◌then◌else◌, inl, inr, List, [], ◌∷◌, Option}
use Rattle.std.proofs.Common.{Some, None, option_map, refl, sym, ap, ◌∙◌, subst, eq-eqb}
use Rattle.std.specs.List.{find}
use Rattle.qc_list.specs.Vocabulary.{In}
use Rattle.qc_list.proofs.Members.{In-passes, In-unfiltered}
use Rattle.qc_decl.specs.declared.declaration.Declaration.{Declaration}
use Rattle.qc_plan.specs.Vocabulary.{RoundState, note, verdict}
use Rattle.qc_msg.specs.declared.call.Call.{Call}
use Rattle.qc_msg.specs.declared.message.Answer.{Answer}
use Rattle.qc_msg.specs.Vocabulary.{quiet, site_called, without_call}
use Rattle.qc_front.specs.declared.doing.Doing.{Doing}
use Rattle.qc_front.specs.declared.doing.Doing.TheVariants.{Idle, Reading, Appending}
use Rattle.qc_front.specs.declared.front.Front.{Front}
use Rattle.qc_front.specs.declared.transaction.Transaction.{Transaction}
use Rattle.qc_front.specs.Conduct as fronts
use Rattle.qc_front.specs.Vocabulary.{FrontMove, appended_with, calls_in, learns, moved as front_moved, read_with}
use Rattle.qc_front.specs.Vocabulary.{standing_of}
use Rattle.laws_turns.proofs.FrontAsks.{Asks, IsBound, append_asks, read_asks}

-- an answer, or that a request is lost: the request isn't open any more

pub not_called : (calls : List Call) (number : ℕ) → site_called calls number ≡ None → (c : Call) → In c calls
    → c.number ≡ number → ⊥
not_called [] number none c member same = member
not_called (x ∷ calls) number none c member same =
    at (x.number == number) refl none (λ rest later. not_called calls number rest c later same) member
  where
    at : (t : Bool) → (x.number == number) ≡ t
        → option_map (λ (y : Call). y.site) (if t then Some x else find (λ (y : Call). y.number == number) calls) ≡ None
        → (site_called calls number ≡ None → In c calls → ⊥) → In c (x ∷ calls) → ⊥
    at true is gone rest here = let never : ⊥ = cc in never
    at false is gone rest (inl it) = let yes : (x.number == number) ≡ true =
        eq-eqb x.number number (ap (λ (y : Call). y.number) (sym it) ∙ same) in let never : ⊥ = cc in never
    at false is gone rest (inr later) = rest gone later

not_left : (calls : List Call) (number : ℕ) (c : Call) → In c (without_call calls number) → c.number ≡ number → ⊥
not_left calls number c member same =
    let passes : not (c.number == number) ≡ true = In-passes (λ (x : Call). not (x.number == number)) c calls member in
    let is : (c.number == number) ≡ true = eq-eqb c.number number same in
    let no : not (c.number == number) ≡ false = ap not is in
    let never : ⊥ = cc in never

-- what is left of the open requests
pub record Leaves (calls : List Call) (number : ℕ) (after : List Call) : Type 0 where
  pub among : (c : Call) → In c after → In c calls
  pub gone : (c : Call) → In c after → c.number ≡ number → ⊥

pub unasked : (calls : List Call) (number : ℕ) → site_called calls number ≡ None → Leaves calls number calls
unasked calls number none = record { among = λ c member. member; gone = not_called calls number none }

pub of_rest : (calls : List Call) (number : ℕ) (after : List Call)
    → ((c : Call) → In c after → In c (without_call calls number)) → Leaves calls number after
of_rest calls number after among = record {
  among = λ c member. In-unfiltered (λ (x : Call). not (x.number == number)) c calls (among c member);
  gone = λ c member. not_left calls number c (among c member);
}

pub leaves_none : (calls : List Call) (number : ℕ) (after : List Call) → after ≡ [] → Leaves calls number after
leaves_none calls number after none = record {
  among = λ c member. absurd (subst (In c) none member);
  gone = λ c member. absurd (subst (In c) none member);
}

pub record Takes (front : Front) (number : ℕ) (m : FrontMove) : Type 0 where
  pub leaves : Leaves (calls_in front.doing) number (calls_in m.front.doing)
  pub bound : IsBound m.front

module _ (decl : Declaration) (front : Front) (number : ℕ) (answer : Option Answer) (bound : IsBound front) where
  aside : (calls : List Call) → calls_in front.doing ≡ calls → site_called calls number ≡ None
      → Takes front number (front_moved front quiet)
  aside calls is none = record {
    leaves = unasked (calls_in front.doing) number
        (ap (λ (v : List Call). site_called v number) is ∙ none);
    bound = bound;
  }

  takes_of : (calls : List Call) (m : FrontMove) → calls_in front.doing ≡ calls → Asks (without_call calls number) m
      → Takes front number m
  takes_of calls m is asks = record {
    leaves = subst (λ (v : List Call). Leaves v number (calls_in m.front.doing)) (sym is)
        (of_rest calls number (calls_in m.front.doing) asks.among);
    bound = asks.bound;
  }

  reading_leaves : (t : Transaction) (object inv : ℕ) (calls : List Call) (round : RoundState) (o : Option ℕ)
      → calls_in front.doing ≡ calls → site_called calls number ≡ o
      → Takes front number (fronts.reading_takes decl front t object inv calls round number answer o)
  reading_leaves t object inv calls round None is none = aside calls is none
  reading_leaves t object inv calls round (Some site) is some =
      takes_of calls (fronts.reading_takes decl front t object inv calls round number answer (Some site)) is
      (read_asks decl (learns front answer) (read_with t site object answer) object inv (without_call calls number)
      (note round site (standing_of answer)) (verdict (note round site (standing_of answer))))

  appending_leaves : (t : Transaction) (object inv event : ℕ) (calls : List Call) (round : RoundState) (o : Option ℕ)
      → calls_in front.doing ≡ calls → site_called calls number ≡ o
      → Takes front number (fronts.appending_takes decl front t object inv event calls round number answer o)
  appending_leaves t object inv event calls round None is none = aside calls is none
  appending_leaves t object inv event calls round (Some site) is some =
      takes_of calls (fronts.appending_takes decl front t object inv event calls round number answer (Some site)) is
      (append_asks decl (learns front answer) (appended_with t site answer) object inv event (without_call calls number)
      (note round site (standing_of answer)) (verdict (note round site (standing_of answer))))

  front_leaves : (doing : Doing) (o : Option Transaction) → front.doing ≡ doing → front.transaction ≡ o
      → Takes front number (fronts.takes_in decl front doing o number answer)
  front_leaves doing None is none = aside [] (ap calls_in (bound none)) refl
  front_leaves Idle (Some t) is some = aside [] (ap calls_in is) refl
  front_leaves (Reading object inv calls round) (Some t) is some =
      reading_leaves t object inv calls round (site_called calls number) (ap calls_in is) refl
  front_leaves (Appending object inv event calls round) (Some t) is some =
      appending_leaves t object inv event calls round (site_called calls number) (ap calls_in is) refl

  pub front_takes : Takes front number (fronts.takes decl front number answer)
  front_takes = front_leaves front.doing front.transaction refl refl
