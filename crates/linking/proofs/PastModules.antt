-- Emitted chunks leave the chunk numbers past the modules as they were.
use Prim.Native.Nat.{ℕ, suc, ◌<◌}
use mathlib.Core.List.{List, [], ◌∷◌, Memᴰ}
use mathlib.Core.Path.{◌≡◌, refl, ◌∙◌}
use lib.ListN.{set, drop}
use lib.Seq.{drop-set-lt}
use Rattle.emitting.specs.Emitted.{Work, Emission, with_number, with_chunk, with_chunks}

number_rest : (n : ℕ) (modules : List ℕ) (number : ℕ) (l : List ℕ) → ((m : ℕ) → Memᴰ m modules → m < n)
    → drop n (with_number modules number l) ≡ drop n l
unfolding with_number
number_rest n [] number l h = refl
number_rest n (m ∷ modules) number l h =
    number_rest n modules number (set l m number) (λ x i. h x (Memᴰ.tail i)) ∙ drop-set-lt n l m number (h m (Memᴰ.head refl))

pub chunks_rest : (n : ℕ) (bits : List ℕ) (number at : ℕ) (es : List Emission) (w : Work)
    → ((e : Emission) → Memᴰ e es → (m : ℕ) → Memᴰ m e.modules → m < n)
    → drop n (with_chunks bits number at es w).chunk_of ≡ drop n w.chunk_of
unfolding with_chunks with_chunk
chunks_rest n bits number at [] w h = refl
chunks_rest n bits number at (e ∷ es) w h =
    chunks_rest n bits (suc number) (suc at) es (with_chunk bits number at e w) (λ f i. h f (Memᴰ.tail i))
    ∙ number_rest n e.modules (suc number) w.chunk_of (h e (Memᴰ.head refl))
