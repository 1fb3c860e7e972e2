-- What is written piece by piece is the text.
use Rattle.std.specs.Prelude.{◌≡◌, ℕ, ◌+◌, ◌<◌, List, [], ◌∷◌, ◌++◌, length, map, take, codes}
use Rattle.std.proofs.Common.{sym, ◌∙◌, ap, arith, append_assoc, get_or}
use Rattle.std.proofs.lemmas.List.{length-take-le, take_more, map-append, append-nil}
use Rattle.std.specs.Fmt.{decimal}
use Rattle.u_base.specs.Spaced.{spaced, ended}
use Rattle.u_base.proofs.SpacedLaws.{spaced-append, ended-append}
use Rattle.u_program.specs.declared.program.Kind.{Kind}
use Rattle.u_program.specs.declared.program.Destination.{Destination}
use Rattle.u_program.specs.Parts.{StatementParts, BlockParts}
use Rattle.u_program.specs.Limits.{has_otherwise}
use Rattle.u_program.specs.Text.{arrow, kind_word, argument_words, destination_word, otherwise_words, tail_words, statement_words, block_line, loop_line, loop_lines, statement_line, statement_lines, block_lines, blocks_lines, program_text, header}
use Rattle.u_program.proofs.Steps.{loop_lines-append, statement_lines-append, blocks_lines-append}
use Rattle.u_program.specs.declared.program.Version.{Version}

module _ (version : Version) where
  -- one more destination
  pub list_more : (start : List ℕ) (ds : List Destination) (i : ℕ) (z : Destination) → i < length ds → (start ++ spaced (map destination_word (take i ds))) ++ (32 ∷ destination_word (get_or ds i z)) ≡ start ++ spaced (map destination_word (take (i + 1) ds))
  list_more start ds i z h =
      let d = get_or ds i z in
      let t : map destination_word (take (i + 1) ds) ≡ map destination_word (take i ds) ++ (destination_word d ∷ []) = ap (map destination_word) (take_more ds i z h) ∙ map-append destination_word (take i ds) (d ∷ []) in
      append_assoc start (spaced (map destination_word (take i ds))) (32 ∷ destination_word d)
      ∙ ap (λ t. start ++ (spaced (map destination_word (take i ds)) ++ (32 ∷ t))) (sym (append-nil (destination_word d)))
      ∙ ap (λ t. start ++ t) (sym (spaced-append (map destination_word (take i ds)) (destination_word d ∷ [])))
      ∙ ap (λ ws. start ++ spaced ws) (sym t)

  -- one more statement
  pub statements_more : (start : List ℕ) (ss : List StatementParts) (i : ℕ) (s : StatementParts) → i < length ss → s ≡ get_or ss i s → (start ++ ended (statement_lines version 1 (take i ss))) ++ (statement_line version (i + 1) s ++ (10 ∷ [])) ≡ start ++ ended (statement_lines version 1 (take (i + 1) ss))
  statements_more start ss i s h e =
      let n : 1 + length (take i ss) ≡ i + 1 = omega (arith, length-take-le i ss (omega arith)) in
      let t : statement_lines version 1 (take (i + 1) ss) ≡ statement_lines version 1 (take i ss) ++ (statement_line version (i + 1) s ∷ []) =
      ap (statement_lines version 1) (take_more ss i s h)
      ∙ ap (λ s. statement_lines version 1 (take i ss ++ (s ∷ []))) (sym e)
      ∙ statement_lines-append version 1 (take i ss) s
      ∙ ap (λ n. statement_lines version 1 (take i ss) ++ (statement_line version n s ∷ [])) n in
      append_assoc start (ended (statement_lines version 1 (take i ss))) (statement_line version (i + 1) s ++ (10 ∷ []))
      ∙ ap (λ t. start ++ t) (sym (ended-append (statement_lines version 1 (take i ss)) (statement_line version (i + 1) s ∷ [])))
      ∙ ap (λ ls. start ++ ended ls) (sym t)

  -- one more loop
  pub loops_more : (start hs : List ℕ) (i z : ℕ) → i < length hs → (start ++ ended (loop_lines 1 (take i hs))) ++ (loop_line (i + 1) (get_or hs i z) ++ (10 ∷ [])) ≡ start ++ ended (loop_lines 1 (take (i + 1) hs))
  loops_more start hs i z l =
      let h = get_or hs i z in
      let n : 1 + length (take i hs) ≡ i + 1 = omega (arith, length-take-le i hs (omega arith)) in
      let t : loop_lines 1 (take (i + 1) hs) ≡ loop_lines 1 (take i hs) ++ (loop_line (i + 1) h ∷ []) =
      ap (loop_lines 1) (take_more hs i z l)
      ∙ loop_lines-append 1 (take i hs) h
      ∙ ap (λ n. loop_lines 1 (take i hs) ++ (loop_line n h ∷ [])) n in
      append_assoc start (ended (loop_lines 1 (take i hs))) (loop_line (i + 1) h ++ (10 ∷ []))
      ∙ ap (λ t. start ++ t) (sym (ended-append (loop_lines 1 (take i hs)) (loop_line (i + 1) h ∷ [])))
      ∙ ap (λ ls. start ++ ended ls) (sym t)

  -- one more block
  pub blocks_more : (start : List ℕ) (bs : List BlockParts) (i : ℕ) (b : BlockParts) → i < length bs → b ≡ get_or bs i b → (start ++ ended (blocks_lines version (take i bs))) ++ ended (block_lines version b) ≡ start ++ ended (blocks_lines version (take (i + 1) bs))
  blocks_more start bs i b h e =
      let t : blocks_lines version (take (i + 1) bs) ≡ blocks_lines version (take i bs) ++ block_lines version b =
      ap (blocks_lines version) (take_more bs i b h) ∙ ap (λ b. blocks_lines version (take i bs ++ (b ∷ []))) (sym e) ∙ blocks_lines-append version (take i bs) b in
      append_assoc start (ended (blocks_lines version (take i bs))) (ended (block_lines version b))
      ∙ ap (λ t. start ++ t) (sym (ended-append (blocks_lines version (take i bs)) (block_lines version b)))
      ∙ ap (λ ls. start ++ ended ls) (sym t)

  pub tail_text : (start : List ℕ) (kind : Kind) (to otherwise : List Destination) → (((start ++ spaced (kind_word kind ∷ argument_words version kind)) ++ (32 ∷ arrow)) ++ spaced (map destination_word to)) ++ spaced (otherwise_words (has_otherwise kind) otherwise) ≡ start ++ spaced (tail_words version kind to otherwise)
  tail_text start kind to otherwise =
      let head = kind_word kind ∷ argument_words version kind in
      let ws = map destination_word to in
      let os = otherwise_words (has_otherwise kind) otherwise in
      append_assoc ((start ++ spaced head) ++ (32 ∷ arrow)) (spaced ws) (spaced os)
      ∙ ap (λ t. ((start ++ spaced head) ++ (32 ∷ arrow)) ++ t) (sym (spaced-append ws os))
      ∙ append_assoc (start ++ spaced head) (32 ∷ arrow) (spaced (ws ++ os))
      ∙ append_assoc start (spaced head) (spaced (arrow ∷ (ws ++ os)))
      ∙ ap (λ t. start ++ t) (sym (spaced-append head (arrow ∷ (ws ++ os))))

  pub statement_text : (start : List ℕ) (n : ℕ) (s : StatementParts) → (((start ++ decimal n) ++ (32 ∷ decimal s.region)) ++ spaced (tail_words version s.kind s.to s.otherwise)) ++ (10 ∷ []) ≡ start ++ (statement_line version n s ++ (10 ∷ []))
  unfolding statement_line
  statement_text start n s =
      ap (λ t. t ++ (10 ∷ [])) (append_assoc (start ++ decimal n) (32 ∷ decimal s.region) (spaced (tail_words version s.kind s.to s.otherwise)) ∙ append_assoc start (decimal n) (spaced (statement_words version s)))
      ∙ append_assoc start (decimal n ++ spaced (statement_words version s)) (10 ∷ [])

  pub loop_text : (start : List ℕ) (n h : ℕ) → (((start ++ codes "loop ") ++ decimal n) ++ (32 ∷ decimal h)) ++ (10 ∷ []) ≡ start ++ (loop_line n h ++ (10 ∷ []))
  unfolding loop_line
  loop_text start n h =
      ap (λ t. t ++ (10 ∷ [])) (append_assoc (start ++ codes "loop ") (decimal n) (32 ∷ decimal h) ∙ append_assoc start (codes "loop ") (decimal n ++ (32 ∷ decimal h)) ∙ ap (λ t. start ++ (codes "loop " ++ (decimal n ++ (32 ∷ t)))) (sym (append-nil (decimal h))))
      ∙ append_assoc start (codes "loop" ++ spaced (decimal n ∷ decimal h ∷ [])) (10 ∷ [])

  pub begun_text : (start name : List ℕ) → ((start ++ codes "block") ++ (32 ∷ name)) ++ (10 ∷ []) ≡ start ++ (block_line name ++ (10 ∷ []))
  unfolding block_line
  begun_text start name =
      ap (λ t. t ++ (10 ∷ [])) (append_assoc start (codes "block") (32 ∷ name) ∙ ap (λ t. start ++ (codes "block" ++ (32 ∷ t))) (sym (append-nil name)))
      ∙ append_assoc start (codes "block" ++ spaced (name ∷ [])) (10 ∷ [])

  pub block_text : (start : List ℕ) (b : BlockParts) → ((start ++ (block_line b.name ++ (10 ∷ []))) ++ ended (loop_lines 1 b.loops)) ++ ended (statement_lines version 1 b.statements) ≡ start ++ ended (block_lines version b)
  block_text start b =
      let ls = loop_lines 1 b.loops in
      let ss = statement_lines version 1 b.statements in
      append_assoc (start ++ (block_line b.name ++ (10 ∷ []))) (ended ls) (ended ss)
      ∙ ap (λ t. (start ++ (block_line b.name ++ (10 ∷ []))) ++ t) (sym (ended-append ls ss))
      ∙ append_assoc start (block_line b.name ++ (10 ∷ [])) (ended (ls ++ ss))
      ∙ ap (λ t. start ++ t) (append_assoc (block_line b.name) (10 ∷ []) (ended (ls ++ ss)))

  pub whole_text : (start : List ℕ) (p : List BlockParts) → (start ++ (header version ++ (10 ∷ []))) ++ ended (blocks_lines version p) ≡ start ++ program_text version p
  unfolding program_text
  whole_text start p =
      append_assoc start (header version ++ (10 ∷ [])) (ended (blocks_lines version p))
      ∙ ap (λ t. start ++ t) (append_assoc (header version) (10 ∷ []) (ended (blocks_lines version p)))
