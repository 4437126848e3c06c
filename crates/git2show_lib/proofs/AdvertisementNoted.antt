-- An advertisement that is noted, a chunk at a time.
use Rattle.std.proofs.Common.{◌≤◌, ◌-◌, ◌+◌, ℕ, List, [], ◌∷◌, ◌++◌, length}
use Rattle.std.proofs.Common.{take, drop, sym, ap, ◌∙◌, subst}
use Rattle.git_pkt.proofs.Chunks.{joined}
use Rattle.git_pkt.specs.Splits.{Given}
use Rattle.git_pkt.specs.Machine.PacketReader.{ReadsOn}
use Rattle.git2show_lib.specs.Others.{line_kept}
use Rattle.git2show_lib.specs.Machine.Noting.{HasNotedLines, KeepsLine}
use Rattle.git2show_lib.specs.declared.noting.Noting.{Noting}
use Rattle.git2show_lib.proofs.OtherLines.{kept_snoc}

module _ {A : Type 0} where
  -- ---- what is noted

  -- bytes that end a packet
  pub noted_packet : (old new : Noting A) (used u : List ℕ) (g : Given) → ReadsOn old.packets u (g ∷ []) new.packets
      → KeepsLine g.packet old.text.items old.lost new.text.items new.lost → HasNotedLines used old → HasNotedLines (used ++ u) new
  noted_packet old new used u g reads keeps h = record {
    notes = λ none.
        let (sound, kept) = keeps.kept none in
        let n = h.notes sound in
        let (rest, stream) = reads 0 used n.given n.rest n.reads in
        record {
          given = n.given ++ g ∷ [];
          rest = rest;
          reads = stream;
          text_is = kept ∙ ap (λ (l : List ℕ). l ++ line_kept g.packet) n.text_is ∙ sym (kept_snoc n.given g);
        };
    why = keeps.why h.why;
  }

  -- the same over what is left of a chunk
  pub noted_further : (new : Noting A) (chunk : List ℕ) (done more : ℕ) (within : done ≤ length chunk) (used : List ℕ)
      → HasNotedLines ((used ++ take done chunk) ++ take more (take (length chunk - done) (drop done chunk))) new
      → HasNotedLines (used ++ take (done + more) chunk) new
  noted_further new chunk done more within used h =
      subst (λ (bytes : List ℕ). HasNotedLines bytes new) (joined used chunk done more within) h
