-- Commands that take their replies, one command on.
use Rattle.std.proofs.Common.{◌≡◌, ℕ, ◌+◌, ◌<◌, Bool, true, false, cond, List, [], ◌++◌, Option, length, get_or, set}
use Rattle.std.proofs.Common.{take, drop, sym, ap, refl, ◌∙◌, arith, append_assoc}
use Rattle.std.specs.Prelude.{◌==◌, slice_get}
use Rattle.std.proofs.lemmas.Bool.{eqb-true}
use Rattle.std.proofs.lemmas.List.{drop-drop, get_or-set_same, get_or-set_other}
use Rattle.std.proofs.lemmas.List.Sums.{count_by_more_yes, count_by_more_no}
use Rattle.qc_decl.specs.declared.declaration.Declaration.{Declaration}
use Rattle.qc_msg.specs.declared.reply.Reply.{Reply}
use Rattle.qc_msg.specs.Vocabulary.{Entry}
use Rattle.qc_script.specs.declared.script.CommandLine.{CommandLine}
use Rattle.qc_text.specs.Vocabulary.{asked, reply_line, reply_lines, told_of}
use Rattle.qc_text.proofs.More.{more, first_left}
use Rattle.qc_text.proofs.Told.{others}
use Rattle.qc_list.proofs.Places.{drop_at}

is_asked : (b : Bool) (a : ℕ) (lines : List CommandLine) (i : ℕ) (line d : CommandLine) → i < length lines
    → line ≡ get_or lines i d → (line.actor == a) ≡ b
    → asked a (take (i + 1) lines) ≡ cond b (asked a (take i lines) + 1) (asked a (take i lines))
is_asked true a lines i line d l e t =
    count_by_more_yes (λ (c : CommandLine). c.actor == a) lines i d l
    (ap (λ (c : CommandLine). c.actor == a) (sym e) ∙ t)
is_asked false a lines i line d l e t =
    count_by_more_no (λ (c : CommandLine). c.actor == a) lines i d l
    (ap (λ (c : CommandLine). c.actor == a) (sym e) ∙ t)

left_here : (queues : List (List Reply)) (actor a n : ℕ) (told : List Reply) → actor ≡ a → actor < length queues
    → get_or queues a [] ≡ drop n told
    → get_or (set queues actor (drop 1 (get_or queues actor []))) a [] ≡ drop (n + 1) told
left_here queues actor a n told same l q =
    ap (λ k. get_or (set queues actor (drop 1 (get_or queues actor []))) k []) (sym same)
    ∙ get_or-set_same queues actor (drop 1 (get_or queues actor [])) [] l
    ∙ ap (λ k. drop 1 (get_or queues k [])) same
    ∙ ap (drop 1) q
    ∙ drop-drop 1 n told

left_by : (b : Bool) (queues : List (List Reply)) (actor a n : ℕ) (told : List Reply) → (actor == a) ≡ b
    → actor < length queues → get_or queues a [] ≡ drop n told
    → get_or (set queues actor (drop 1 (get_or queues actor []))) a [] ≡ drop (cond b (n + 1) n) told
left_by true queues actor a n told t l q = left_here queues actor a n told (eqb-true actor a t) l q
left_by false queues actor a n told t l q =
    get_or-set_other queues actor a (drop 1 (get_or queues actor [])) [] (others actor a t) ∙ q

-- a command takes its actor's first reply that is left
pub left_more : (queues : List (List Reply)) (h : List Entry) (lines : List CommandLine) (i : ℕ) (line d : CommandLine)
    → i < length lines → line ≡ get_or lines i d
    → length queues ≡ 256 → line.actor < 256
    → ((a : ℕ) → a < 256 → get_or queues a [] ≡ drop (asked a (take i lines)) (told_of a h))
    → (a : ℕ) → a < 256 → get_or (set queues line.actor (drop 1 (get_or queues line.actor []))) a [] ≡ drop
    (asked a (take (i + 1) lines)) (told_of a h)
left_more queues h lines i line d l e all fits left a la =
    let within : line.actor < length queues = omega arith in
    left_by (line.actor == a) queues line.actor a (asked a (take i lines)) (told_of a h) refl within (left a la)
    ∙ ap (λ n. drop n (told_of a h)) (sym (is_asked (line.actor == a) a lines i line d l e refl))

-- which is the reply that has the command's place
pub first_reply : (queues : List (List Reply)) (h : List Entry) (lines : List CommandLine) (i actor : ℕ) → actor < 256
    → ((a : ℕ) → a < 256 → get_or queues a [] ≡ drop (asked a (take i lines)) (told_of a h))
    → slice_get (get_or queues actor []) 0 ≡ slice_get (told_of actor h) (asked actor (take i lines))
first_reply queues h lines i actor fits left =
    ap (λ (q : List Reply). slice_get q 0) (left actor fits) ∙ first_left (told_of actor h) (asked actor (take i lines))

-- and its line is written
pub text_more : (decl : Declaration) (h : List Entry) (lines : List CommandLine) (i : ℕ) (line d : CommandLine)
    (reply : Option Reply) (page page' start : List ℕ)
    → i < length lines → line ≡ get_or lines i d
    → reply ≡ slice_get (told_of line.actor h) (asked line.actor (take i lines))
    → page' ≡ page ++ reply_line decl line reply
    → page ++ reply_lines decl h (take i lines) (drop i lines) ≡ start
    → page' ++ reply_lines decl h (take (i + 1) lines) (drop (i + 1) lines) ≡ start
text_more decl h lines i line d reply page page' start l e r p t =
    ap (λ k. k ++ reply_lines decl h (take (i + 1) lines) (drop (i + 1) lines)) p
    ∙ append_assoc page (reply_line decl line reply) (reply_lines decl h (take (i + 1) lines) (drop (i + 1) lines))
    ∙ ap (λ k. page ++ (reply_line decl line k ++ reply_lines decl h (take (i + 1) lines) (drop (i + 1) lines))) r
    ∙ ap (λ k. page ++ (reply_line decl line (slice_get (told_of line.actor h) (asked line.actor (take i lines)))
    ++ reply_lines decl h k (drop (i + 1) lines))) (more lines i line d l e)
    ∙ ap (λ k. page ++ reply_lines decl h (take i lines) k) (sym (drop_at lines i line d l e))
    ∙ t
