-- The post of an input or of a rise ends where the next input is taken, at a line's fall, and at a rise.
use Rattle.std.proofs.Common.{◌≡◌, ℕ, ◌+◌, List, [], ◌∷◌, ◌++◌, None, refl, sym, ap, subst, ◌∙◌, append_assoc}
use Rattle.std.specs.Prelude.{map}
use Rattle.std.specs.List.{filter_map}
use Rattle.qc_msg.specs.declared.turn.Posting.{Posting}
use Rattle.qc_msg.specs.Vocabulary.{Deed, Falls, Rises, Sends, Takes, Tells, Writes, sends_of, Entry, own}
use Rattle.qc_promise.specs.Vocabulary.{Act, IsPostOf, Sent, Told, TurnDue, Wrote, fallen_in, posted_due, posted_next}
use Rattle.qc_promise.specs.Vocabulary.{sent_by, Lines, learning, IsOfOthers, Kept}
use Rattle.qc_entry.specs.declared.line.Line.{Line}
use Rattle.qc_entry.proofs.Union.{union-nil}

-- what comes after the post doesn't change it
pub posted-more : (ys : List Deed) → posted_next ys ≡ [] → (xs : List Deed) → posted_next (xs ++ ys) ≡ posted_next xs
posted-more ys ends [] = ends
posted-more ys ends (Takes given ∷ xs) = refl
posted-more ys ends (Writes w ∷ xs) = ap (λ (v : List Act). Wrote w ∷ v) (posted-more ys ends xs)
posted-more ys ends (Sends n to m ∷ xs) =
    ap (λ (v : List Act). Sent (record { to = to; message = m }) ∷ v) (posted-more ys ends xs)
posted-more ys ends (Tells r ∷ xs) = ap (λ (v : List Act). Told r ∷ v) (posted-more ys ends xs)
posted-more ys ends (Falls cause pending ∷ xs) = refl
posted-more ys ends (Rises records ∷ xs) = refl

-- so whatever comes there, the post stays one of the turn's

pub post_more : (t : TurnDue) (xs ys : List Deed) → posted_next ys ≡ [] → IsPostOf t xs → IsPostOf t (xs ++ ys)
post_more t xs ys ends is = subst (λ (acts : List Act). acts ≡ posted_due t (fallen_in acts))
    (sym (posted-more ys ends xs)) is

pub post_less : (t : TurnDue) (xs ys : List Deed) → posted_next ys ≡ [] → IsPostOf t (xs ++ ys) → IsPostOf t xs
post_less t xs ys ends is = subst (λ (acts : List Act). acts ≡ posted_due t (fallen_in acts))
    (posted-more ys ends xs) is

-- messages, and then what comes after them

pub posted_sends : (n : ℕ) (ps : List Posting) (xs : List Deed)
    → posted_next (sends_of n ps ++ xs) ≡ map Sent ps ++ posted_next xs
posted_sends n [] xs = refl
posted_sends n (p ∷ ps) xs = ap (λ (v : List Act). Sent p ∷ v) (posted_sends (n + 1) ps xs)

pub sent_all : (ps : List Posting) → filter_map sent_by (map Sent ps) ≡ ps
sent_all [] = refl
sent_all (p ∷ ps) = ap (λ (v : List Posting). p ∷ v) (sent_all ps)

pub fallen_none : (ps : List Posting) → fallen_in (map Sent ps) ≡ None
fallen_none [] = refl
fallen_none (p ∷ ps) = fallen_none ps

pub fallen_sent : (ps : List Posting) (acts : List Act) → fallen_in (map Sent ps ++ acts) ≡ fallen_in acts
fallen_sent [] acts = refl
fallen_sent (p ∷ ps) acts = fallen_sent ps acts

pub learning-nil : (l : Lines) → learning l [] ≡ l
learning-nil l = ap (λ (v : List Line). record l { since = v }) (union-nil l.since)

pub own_others : (a : ℕ) (more : List Entry) → IsOfOthers a more → own a more ≡ []
own_others a [] others = refl
own_others a (e ∷ more) others = rw others.0.0 (own_others a more others.1)

pub kept_part : (h k : List Entry) → Kept (h ++ k) → Kept h
kept_part h k kept =
    λ before later e is. kept before (later ++ k) e
    (sym (append_assoc before (e ∷ later) k) ∙ ap (λ (es : List Entry). es ++ k) is)
