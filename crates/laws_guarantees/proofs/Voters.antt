-- The requests of a half went to the first sites of the client's order, in that order.
use Rattle.std.proofs.Common.{[], ◌≡◌, ℕ, suc, ◌+◌, ◌==◌, ◌&&◌, Bool, true, false, cond, List, ◌∷◌, ◌++◌, map, fold}
use Rattle.std.proofs.Common.{length, Option, Some, None, option_map, refl, sym, ap, ◌∙◌, arith, length-append}
use Rattle.std.specs.Prelude.{drop, filter, take}
use Rattle.std.specs.Option.{option_map_or}
use Rattle.std.proofs.lemmas.List.{append-nil, length-map, map-append}
use Rattle.std.proofs.lemmas.List.Elements.{filter-append}
use Rattle.qc_stamp.specs.declared.stamp.TxId.{TxId}
use Rattle.qc_entry.specs.Vocabulary.{no_mark}
use Rattle.qc_decl.specs.Vocabulary.{read_need_of}
use Rattle.qc_decl.specs.declared.declaration.Declaration.{Declaration}
use Rattle.qc_plan.specs.Vocabulary.{first, may_ask}
use Rattle.qc_msg.specs.declared.message.Message.{Message}
use Rattle.qc_msg.specs.declared.message.Want.{Want}
use Rattle.qc_msg.specs.declared.message.Want.TheVariants.{Append, Prepare, Read}
use Rattle.qc_msg.specs.declared.step.Command.{Command}
use Rattle.qc_msg.specs.declared.step.Command.TheVariants as commands
use Rattle.qc_msg.specs.Vocabulary.{Deed, Falls, Rises, Sends, Takes, Tells, Writes}
use Rattle.qc_promise.specs.Vocabulary.{Account, ClientRequest, Current, account_at, account_sent, account_taken}
use Rattle.qc_promise.specs.Vocabulary.{account_written, answer_of, append_need, are_reads_met, asked_by, carries}
use Rattle.qc_promise.specs.Vocabulary.{command_asks, commit_asks, do_asks, is_append, is_asked_for, is_next_voter}
use Rattle.qc_promise.specs.Vocabulary.{is_of, is_read, is_this, new_account, reads_as, requests_for, round_of}
use Rattle.laws_due.specs.Vocabulary.{AreByRows, IsSendDue}
use Rattle.laws_guarantees.proofs.AskingOrder.{order, sites_in, count_in, IsInOrder, first_drop, of_reads, of_appends}
use Rattle.laws_guarantees.proofs.AskingOrder.{IsHalf, taken_order, written_order}
use Rattle.laws_guarantees.proofs.AccountCases.{sent_cases}
use Rattle.qc_list.proofs.Booleans.{and_first, and_second}

-- the first of the sites that a half hasn't asked
abbrev is_left_first : Declaration → Account → Current → (Want → Bool) → ℕ → Bool
is_left_first decl d t half site = is_this site (first (round_of decl d t half 0).rest)

module _ (decl : Declaration) where
  left_first : (d : Account) (t : Current) (half : Want → Bool) (need site : ℕ)
      → is_next_voter decl d t half need site ≡ true → is_left_first decl d t half site ≡ true
  left_first d t half need site is = by (may_ask (round_of decl d t half need)) is
    where
      by : (b : Bool) → is_this site (cond b (first (round_of decl d t half need).rest) None) ≡ true
          → is_left_first decl d t half site ≡ true
      by true next = next
      by false next = absurd (let never : ⊥ = cc in never)

  do_next : (half : Want → Bool) → IsHalf half → (d : Account) (t : Current) (object inv site : ℕ) (want : Want)
      → half want ≡ true → do_asks decl d t object inv site want ≡ true → is_left_first decl d t half site ≡ true
  do_next half of_reads d t object inv site (Read read) its is =
      left_first d t is_read (read_need_of decl t.epoch object inv) site
      (and_first (is_next_voter decl d t is_read (read_need_of decl t.epoch object inv) site)
      (length (requests_for is_append d) == 0)
      (and_second (reads_as object inv no_mark read)
      (is_next_voter decl d t is_read (read_need_of decl t.epoch object inv) site
      && (length (requests_for is_append d) == 0)) is))
  do_next half of_reads d t object inv site (Append o view own) its is = absurd (let never : ⊥ = cc in never)
  do_next half of_reads d t object inv site Prepare its is = absurd (let never : ⊥ = cc in never)
  do_next half of_appends d t object inv site (Read read) its is = absurd (let never : ⊥ = cc in never)
  do_next half of_appends d t object inv site (Append o view own) its is =
      left_first d t is_append (append_need decl t object inv) site
      (and_first (is_next_voter decl d t is_append (append_need decl t object inv) site)
      (are_reads_met decl d t object inv)
      (and_second ((o == object) && carries decl t object view own (answer_of decl t object inv))
      (is_next_voter decl d t is_append (append_need decl t object inv) site && are_reads_met decl d t object inv)
      is))
  do_next half of_appends d t object inv site Prepare its is = absurd (let never : ⊥ = cc in never)

  command_next : (half : Want → Bool) → IsHalf half
      → (d : Account) (t : Current) (site : ℕ) (want : Want) (o : Option Command) → half want ≡ true
      → command_asks decl d t site want o ≡ true → is_left_first decl d t half site ≡ true
  command_next half is_half d t site want None its is = absurd (let never : ⊥ = cc in never)
  command_next half is_half d t site want (Some commands.Begin) its is = absurd (let never : ⊥ = cc in never)
  command_next half is_half d t site want (Some (commands.Do object inv)) its is =
      do_next half is_half d t object inv site want its is
  command_next half is_half d t site want (Some commands.Commit) its is = none half is_half want its is
    where
      none : (half : Want → Bool) → IsHalf half → (want : Want) → half want ≡ true
          → commit_asks decl d t site want ≡ true → is_left_first decl d t half site ≡ true
      none half of_reads (Read read) its now = absurd (let never : ⊥ = cc in never)
      none half of_reads (Append o view own) its now = absurd (let never : ⊥ = cc in never)
      none half of_reads Prepare its now = absurd (let never : ⊥ = cc in never)
      none half of_appends (Read read) its now = absurd (let never : ⊥ = cc in never)
      none half of_appends (Append o view own) its now = absurd (let never : ⊥ = cc in never)
      none half of_appends Prepare its now = absurd (let never : ⊥ = cc in never)
  command_next half is_half d t site want (Some commands.Abort) its is = absurd (let never : ⊥ = cc in never)
  command_next half is_half d t site want (Some (commands.Epoch number)) its is = absurd (let never : ⊥ = cc in never)

  asked_order : (half : Want → Bool) → IsHalf half → (d : Account) (n to : ℕ) (tx : TxId) (epoch life : ℕ) (want : Want)
      → is_asked_for decl d to tx epoch life want ≡ true → IsInOrder decl half d
      → IsInOrder decl half
      (record d
      { requests = d.requests ++ record { number = n; site = to; life = life; want = want; taken = None } ∷ [] })
  asked_order half is_half d n to tx epoch life want due old e is = by (half want) refl
    where
      q : ClientRequest
      q = record { number = n; site = to; life = life; want = want; taken = None }

      split : filter (λ (q : ClientRequest). half q.want)
          (d.requests ++ record { number = n; site = to; life = life; want = want; taken = None } ∷ [])
          ≡ filter (λ (q : ClientRequest). half q.want) d.requests
          ++ cond (half want) (record { number = n; site = to; life = life; want = want; taken = None } ∷ []) []
      split =
          filter-append (λ (q : ClientRequest). half q.want) d.requests
          (record { number = n; site = to; life = life; want = want; taken = None } ∷ [])

      next : half want ≡ true → (t : Current) → d.current ≡ Some t → is_left_first decl d t half to ≡ true
      next its t current =
          let now : option_map_or (λ (t : Current). is_of t to tx epoch life && command_asks decl d t to want d.command)
          (Some t) false ≡ true =
          ap (λ (o : Option Current). option_map_or (λ (t : Current). is_of t to tx epoch life
          && command_asks decl d t to want d.command) o false) (sym current) ∙ due in
          command_next half is_half d t to want d.command its
          (and_second (is_of t to tx epoch life) (command_asks decl d t to want d.command) now)

      voter : (t : Current) → d.current ≡ Some t → t.epoch ≡ e → is_left_first decl d t half to ≡ true
          → is_this to (first (drop (count_in half d.requests) (order decl d.client e))) ≡ true
      voter t current at voted =
          (λ i. is_this to
          (first (drop (sym (length-map (filter (λ (q : ClientRequest). half q.want) d.requests) asked_by) i)
          (order decl d.client (sym at i))))) ∙ voted

      found : half want ≡ true → (o : Option Current) → d.current ≡ o → option_map (λ (t : Current). t.epoch) o ≡ Some e
          → is_this to (first (drop (count_in half d.requests) (order decl d.client e))) ≡ true
      found its None current never = absurd (let no : ⊥ = cc in no)
      found its (Some t) current at = voter t current (let same : t.epoch ≡ e = cc in same) (next its t current)

      by : (v : Bool) → half want ≡ v
          → sites_in half (d.requests ++ record { number = n; site = to; life = life; want = want; taken = None } ∷ [])
          ≡ take
          (count_in half
          (d.requests ++ record { number = n; site = to; life = life; want = want; taken = None } ∷ []))
          (order decl d.client e)
      by false other =
          let same : filter (λ (q : ClientRequest). half q.want) (d.requests
          ++ record { number = n; site = to; life = life; want = want; taken = None } ∷ [])
          ≡ filter (λ (q : ClientRequest). half q.want) d.requests =
          split
          ∙ ap
          (λ (v : Bool). filter (λ (q : ClientRequest). half q.want) d.requests
          ++ cond v (record { number = n; site = to; life = life; want = want; taken = None } ∷ []) []) other
          ∙ append-nil (filter (λ (q : ClientRequest). half q.want) d.requests) in
          ap (map (λ (q : ClientRequest). q.site)) same ∙ old e is
          ∙ ap (λ (v : List ClientRequest). take (length v) (order decl d.client e)) (sym same)
      by true its =
          let same : filter (λ (q : ClientRequest). half q.want) (d.requests
          ++ record { number = n; site = to; life = life; want = want; taken = None } ∷ [])
          ≡ filter (λ (q : ClientRequest). half q.want) d.requests
          ++ record { number = n; site = to; life = life; want = want; taken = None } ∷ [] =
          split
          ∙ ap
          (λ (v : Bool). filter (λ (q : ClientRequest). half q.want) d.requests
          ++ cond v (record { number = n; site = to; life = life; want = want; taken = None } ∷ []) []) its in
          let long : length (filter (λ (q : ClientRequest). half q.want) d.requests
          ++ record { number = n; site = to; life = life; want = want; taken = None } ∷ [])
          ≡ suc (count_in half d.requests) =
          (let l : length (filter (λ (q : ClientRequest). half q.want) d.requests
          ++ record { number = n; site = to; life = life; want = want; taken = None } ∷ [])
          ≡ count_in half d.requests + 1 =
          length-append (filter (λ (q : ClientRequest). half q.want) d.requests)
          (record { number = n; site = to; life = life; want = want; taken = None } ∷ []) in omega arith) in
          ap (map (λ (q : ClientRequest). q.site)) same
          ∙ map-append (λ (q : ClientRequest). q.site) (filter (λ (q : ClientRequest). half q.want) d.requests)
          (record { number = n; site = to; life = life; want = want; taken = None } ∷ [])
          ∙ ap (λ (v : List ℕ). v ++ to ∷ []) (old e is)
          ∙ sym (first_drop (order decl d.client e) (count_in half d.requests) to (found its d.current refl is))
          ∙ ap (λ (k : ℕ). take k (order decl d.client e)) (sym (ap length same ∙ long))

  sent_order : (half : Want → Bool) → IsHalf half → (d : Account) (n to : ℕ) (m : Message) → IsSendDue decl d to m
      → IsInOrder decl half d → IsInOrder decl half (account_sent decl d n to m)
  sent_order half is_half d n to m due old = sent_cases decl d n to
      (λ m e. IsSendDue decl d to m → IsInOrder decl half e) (λ m due. old)
      (λ tx epoch life want is due. asked_order half is_half d n to tx epoch life want due old) m due

  pub order_from : (half : Want → Bool) → IsHalf half → (d : Account) (ds : List Deed) → AreByRows decl d ds
      → IsInOrder decl half d → IsInOrder decl half (fold (account_at decl) d ds)
  order_from half is_half d [] due old = old
  order_from half is_half d (Takes g ∷ ds) due old =
      order_from half is_half (account_taken d g) ds due.1 (taken_order decl half d g old)
  order_from half is_half d (Writes w ∷ ds) due old =
      order_from half is_half (account_written d w) ds due.1 (written_order decl half d w old)
  order_from half is_half d (Sends n to m ∷ ds) due old =
      order_from half is_half (account_sent decl d n to m) ds due.1 (sent_order half is_half d n to m due.0 old)
  order_from half is_half d (Tells r ∷ ds) due old =
      order_from half is_half (account_at decl d (Tells r)) ds due.1 (λ e is. refl)
  order_from half is_half d (Falls cause pending ∷ ds) due old = absurd due.0
  order_from half is_half d (Rises kept ∷ ds) due old = absurd due.0

  pub in_order : (half : Want → Bool) → IsHalf half → (client : ℕ) (ds : List Deed)
      → AreByRows decl (new_account client) ds → IsInOrder decl half (fold (account_at decl) (new_account client) ds)
  in_order half is_half client ds due = order_from half is_half (new_account client) ds due (λ e is. refl)
