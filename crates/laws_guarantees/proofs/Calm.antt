-- An inbox in which nothing is lost or late stays so, as somebody posts: each message passes.
use Rattle.std.proofs.Common.{◌*◌, ◌≡◌, ℕ, zero, suc, ◌+◌, ◌==◌, Bool, true, false, if◌then◌else◌, List, [], ◌∷◌, ◌++◌}
use Rattle.std.proofs.Common.{Option, Some, None, refl, sym, ap, ◌∙◌, subst}
use Rattle.std.specs.Prelude.{get_or, replicate}
use Rattle.std.specs.List.{fold}
use Rattle.std.proofs.lemmas.List.{append-nil, append_assoc}
use Rattle.std.proofs.lemmas.List.Sums.{fold-append}
use Rattle.qc_link.specs.Vocabulary.{fate, most_actors, no_cuts, pair_place}
use Rattle.qc_link.specs.declared.plan.Link.{Link}
use Rattle.qc_link.specs.declared.rule.Fate.{Fate}
use Rattle.qc_link.specs.declared.rule.Fate.TheVariants.{Pass, Drop}
use Rattle.qc_msg.specs.declared.message.Envelope.{Envelope}
use Rattle.qc_msg.specs.declared.message.Message.{Message}
use Rattle.qc_msg.specs.declared.message.Message.TheVariants as messages
use Rattle.qc_msg.specs.declared.record.Record.{Record}
use Rattle.qc_msg.specs.declared.reply.Reply.{Reply}
use Rattle.qc_msg.specs.declared.turn.Posting.{Posting}
use Rattle.qc_msg.specs.declared.turn.Turn.{Turn}
use Rattle.qc_msg.specs.Vocabulary.{Entry, by, envelopes, posted, sents, told, wrote}
use Rattle.qc_msg.proofs.GrownMail.{by-posted}
use Rattle.qc_script.proofs.AllUp.{is_up-everybody, wrote_up}
use Rattle.qc_script.specs.Vocabulary.{Inbox, answers_by, comes, comes_with, count_of, everybody, goes, goes_with}
use Rattle.qc_script.specs.Vocabulary.{has_request, inbox_at, is_request, is_up, one_more, with_copies, with_number}
use Rattle.qc_script.specs.Vocabulary.{without_request}
use Rattle.qc_script.specs.declared.script.Script.{Script}
use Rattle.laws_guarantees.specs.Vocabulary.{IsCalm, sent_to}

-- a message passes

none_cut : (n k : ℕ) → get_or (replicate n false) k false ≡ false
none_cut zero k = refl
none_cut (suc n) zero = refl
none_cut (suc n) (suc k) = none_cut n k

passes : (cuts : List Bool) (from to n : ℕ) → cuts ≡ no_cuts → fate [] cuts from to n ≡ Pass
passes cuts from to n is =
    ap (λ (c : List Bool). fate [] c from to n) is
    ∙ ap (λ (t : Bool). if t then Drop else Pass) (none_cut (most_actors * most_actors) (pair_place from to))

-- the copy of a message that comes

abbrev pub copy_for : ℕ → Envelope → List Envelope
copy_for a e = sent_to a (e ∷ [])

answers_calm : (copies : List Envelope) (i : Inbox) (m : Message) → IsCalm copies i
    → IsCalm copies (answers_by i m Pass)
answers_calm copies i (messages.Request tx epoch life want) c = c
answers_calm copies i (messages.Answer to answer) c = by (has_request i.unanswered to)
  where
    by : (t : Bool) → IsCalm copies (if t then record i { unanswered = without_request i.unanswered to; lost = i.lost }
        else i)
    by true = record {
      copies = c.copies;
      lost = c.lost;
      late = c.late;
      opening = c.opening;
      cuts = c.cuts;
      up = c.up;
      controls = c.controls;
    }
    by false = c
answers_calm copies i (messages.Decision tx verdict) c = c
answers_calm copies i (messages.Inquiry tx) c = c
answers_calm copies i (messages.Ask tx) c = c
answers_calm copies i (messages.Close epoch) c = c
answers_calm copies i (messages.Install start) c = c

comes_calm : (a : ℕ) (copies : List Envelope) (i : Inbox) (e : Envelope) → IsCalm copies i
    → IsCalm (copies ++ copy_for a e) (comes [] a i e)
comes_calm a copies i e c = by (e.to == a)
  where
    came : IsCalm (copies ++ e ∷ []) (comes_with true i e Pass)
    came = answers_calm (copies ++ e ∷ []) (with_copies true i e Pass) e.message (record {
      copies = ap (λ (v : List Envelope). v ++ e ∷ []) c.copies;
      lost = c.lost;
      late = ap (λ (v : List Envelope). v ++ []) c.late;
      opening = c.opening;
      cuts = c.cuts;
      up = c.up;
      controls = c.controls;
    })

    by : (t : Bool) → IsCalm (copies ++ (if t then e ∷ [] else []))
        (if t then comes_with (is_up i.up a) i e (fate [] i.cuts e.from e.to (count_of i.from_each e.from + 1)) else i)
    by true =
        subst (λ (f : Fate). IsCalm (copies ++ e ∷ []) (comes_with (is_up i.up a) i e f))
        (sym (passes i.cuts e.from e.to (count_of i.from_each e.from + 1) c.cuts))
        (subst (λ (u : Bool). IsCalm (copies ++ e ∷ []) (comes_with u i e Pass))
        (sym (is_up-everybody i.up a c.up)) came)
    by false = subst (λ (v : List Envelope). IsCalm v i) (sym (append-nil copies)) c

goes_calm : (a : ℕ) (copies : List Envelope) (i : Inbox) (e : Envelope) → IsCalm copies i
    → IsCalm copies (goes [] a i e)
goes_calm a copies i e c = by (e.from == a)
  where
    went : (t : Bool) → IsCalm copies (if t then record i
        { to_each = one_more i.to_each e.to; unanswered = i.unanswered ++ record { number = e.number; to = e.to } ∷ [] }
        else record i { to_each = one_more i.to_each e.to })
    went true = record {
      copies = c.copies;
      lost = c.lost;
      late = c.late;
      opening = c.opening;
      cuts = c.cuts;
      up = c.up;
      controls = c.controls;
    }
    went false = record {
      copies = c.copies;
      lost = c.lost;
      late = c.late;
      opening = c.opening;
      cuts = c.cuts;
      up = c.up;
      controls = c.controls;
    }

    by : (t : Bool) → IsCalm copies (if t then goes_with i e
        (fate [] i.cuts e.from e.to (count_of i.to_each e.to + 1)) else i)
    by true = subst (λ (f : Fate). IsCalm copies (goes_with i e f))
        (sym (passes i.cuts e.from e.to (count_of i.to_each e.to + 1) c.cuts))
        (subst (λ (u : Bool). IsCalm copies (if is_request e.message then
        (if u then record i {
          to_each = one_more i.to_each e.to;
          unanswered = i.unanswered ++ record { number = e.number; to = e.to } ∷ [];
        } else record i
        { to_each = one_more i.to_each e.to; lost = with_number i.lost e.number }) else record i
        { to_each = one_more i.to_each e.to }))
        (sym (is_up-everybody i.up e.to c.up)) (went (is_request e.message)))
    by false = c

-- a turn

module _ (script : Script) (a : ℕ) where
  abbrev pub after : Inbox → List Entry → Inbox
  after i k = fold (λ (i : Inbox) (e : Entry). inbox_at script a i e.actor e.step) i k

  wrote_calm : (b : ℕ) (write : Option Record) (i : Inbox) → i.up ≡ everybody → after i (by b (wrote write)) ≡ i
  wrote_calm b None i up = refl
  wrote_calm b (Some written) i up = wrote_up a i b up

  told_calm : (b : ℕ) (reply : Option Reply) (copies : List Envelope) (i : Inbox) → IsCalm copies i
      → IsCalm copies (after i (by b (told reply)))
  told_calm b None copies i c = c
  told_calm b (Some reply) copies i c = at (b == a)
    where
      at : (t : Bool) → IsCalm copies (if t then record i { busy = false } else i)
      at true = record {
        copies = c.copies;
        lost = c.lost;
        late = c.late;
        opening = c.opening;
        cuts = c.cuts;
        up = c.up;
        controls = c.controls;
      }
      at false = c

  sent-first : (e : Envelope) (es : List Envelope) → copy_for a e ++ sent_to a es ≡ sent_to a (e ∷ es)
  sent-first e es = at (e.to == a)
    where
      at : (t : Bool) → (if t then e ∷ [] else []) ++ sent_to a es ≡ (if t then e ∷ sent_to a es else sent_to a es)
      at true = refl
      at false = refl

  sents_calm : script.links ≡ [] → (b n : ℕ) (ps : List Posting) (copies : List Envelope) (i : Inbox) → IsCalm copies i
      → IsCalm (copies ++ sent_to a (envelopes b n ps)) (after i (by b (sents n ps)))
  sents_calm free b n [] copies i c = subst (λ (v : List Envelope). IsCalm v i) (sym (append-nil copies)) c
  sents_calm free b n (p ∷ ps) copies i c =
      let e : Envelope = record { number = n; from = b; to = p.to; message = p.message } in
      subst (λ (v : List Envelope). IsCalm v (after
      (goes script.links a (comes script.links a i
      (record { number = n; from = b; to = p.to; message = p.message }))
      (record { number = n; from = b; to = p.to; message = p.message })) (by b (sents (n + 1) ps))))
      (append_assoc copies (copy_for a e) (sent_to a (envelopes b (n + 1) ps))
      ∙ ap (λ (v : List Envelope). copies ++ v) (sent-first e (envelopes b (n + 1) ps)))
      (sents_calm free b (n + 1) ps (copies ++ copy_for a e) (goes script.links a (comes script.links a i e) e)
      (subst (λ (links : List Link). IsCalm (copies ++ copy_for a
      (record { number = n; from = b; to = p.to; message = p.message }))
      (goes links a (comes links a i (record { number = n; from = b; to = p.to; message = p.message }))
      (record { number = n; from = b; to = p.to; message = p.message }))) (sym free)
      (goes_calm a (copies ++ copy_for a e) (comes [] a i e) e (comes_calm a copies i e c))))

  pub turn_calm : script.links ≡ [] → (b n : ℕ) (turn : Turn) (copies : List Envelope) (i : Inbox) → IsCalm copies i
      → IsCalm (copies ++ sent_to a (envelopes b n turn.sends)) (after i (by b (posted n turn)))
  turn_calm free b n turn copies i c =
      subst (IsCalm (copies ++ sent_to a (envelopes b n turn.sends))) (sym whole)
      (told_calm b turn.told (copies ++ sent_to a (envelopes b n turn.sends)) (after i (by b (sents n turn.sends)))
      (sents_calm free b n turn.sends copies i c))
    where
      step : Inbox → Entry → Inbox
      step = λ (i : Inbox) (e : Entry). inbox_at script a i e.actor e.step

      whole : after i (by b (posted n turn)) ≡ after (after i (by b (sents n turn.sends))) (by b (told turn.told))
      whole =
          ap (λ (k : List Entry). after i k) (by-posted b n turn)
          ∙ fold-append step i (by b (wrote turn.write)) (by b (sents n turn.sends) ++ by b (told turn.told))
          ∙ ap (λ (j : Inbox). after j (by b (sents n turn.sends) ++ by b (told turn.told)))
          (wrote_calm b turn.write i c.up)
          ∙ fold-append step i (by b (sents n turn.sends)) (by b (told turn.told))
