-- From the chunks that are made to the areas that the definition writes.
use Prim.Native.Nat.{ℕ, ◌+◌, ◌≤◌}
use mathlib.Core.List.{List}
use mathlib.Core.Path.{◌≡◌, sym, ap, ap₂, ◌∙◌, subst}
use native.Mathlib.Omega.{arith}
use lib.ListN.{length, replicate, length-replicate}
use Rattle.grouping.specs.Given.{Given, Areas}
use Rattle.grouping.specs.Settings.{all_settings}
use Rattle.grouping.specs.Tree.{places_of, tree_of}
use Rattle.grouping.specs.ChunkList.{chunk_list}
use Rattle.grouping.specs.Written.{per_module, written}
use Rattle.lists.specs.Area.{placed}
use Rattle.grouping_laws.proofs.ChunkPlaces.{chunks_apart}
use Rattle.emitting.specs.Emitted.{Work}
use Rattle.linking.specs.Chains.{Cleared, Linked}
use Rattle.linking.specs.Links.{Links, linked, Linkable}
use Rattle.linking.proofs.PerModule.{module_length}
use Rattle.lists.proofs.Placed.{placed_length}
use Rattle.linking.proofs.ChunkModules.{places_distinct}
use Rattle.linking.proofs.MadeWritten.{made_linkable, made_linked, made_written}
use Rattle.running.proofs.Tests.{few_modules, passed_sound}
use Rattle.run.specs.Fits.{RunTables}
use Rattle.run.specs.Finished.{unlinked, Finishing, Finished}
use Rattle.run.specs.Made.{PlacesFit, AllMade}
use Rattle.run.specs.Ran.{RunRoom, Ran}
use Rattle.run.proofs.OverPlaces.{work_of}

-- the areas of the chains
abbrev links_of : Areas → Links
links_of a = record { next_of = a.modules.next_of; first_of = a.records.first_of }

module _ (b : Given) (t : RunTables) (on_entry at : ℕ) (a : Areas) (fits : PlacesFit b t on_entry) (room : RunRoom t.n at a) (count : ℕ) (now : Work)
    (all : AllMade b at count (work_of a) now) where
  abbrev links : Links
  links = links_of a

  firsts_in : at + count ≤ length links.first_of
  firsts_in = omega (arith, room.firsts, all.few, fits.tables.modules)

  nexts_long : t.n ≤ length (unlinked t.n at count links).next_of
  unfolding unlinked
  nexts_long = rw (module_length t.n (λ m. 0) links.next_of room.nexts) room.nexts

  firsts_long : at + length (chunk_list b) ≤ length (unlinked t.n at count links).first_of
  unfolding unlinked
  firsts_long =
      rw (placed_length at (replicate count 0) links.first_of (rw (length-replicate {A = ℕ} count 0) firsts_in), ← all.chunks) firsts_in

  pub run_finishing : Finishing t.walking.order now.chunk_of on_entry t.n at count links
  unfolding chunk_list
  run_finishing =
      let f = fits.tables in
      record {
        modules = room.nexts;
        records = firsts_in;
        linkable =
            subst (λ (l : List ℕ). Linkable l now.chunk_of on_entry at (unlinked t.n at count links)) (sym fits.order)
            (subst (λ (k : ℕ). Linkable (places_of b) now.chunk_of k at (unlinked t.n at count links)) (sym f.entry)
            (made_linkable b at (chunk_list b) (work_of a) now (places_distinct b (passed_sound b f.passed))
            (chunks_apart b.shared.k (all_settings b) (tree_of b)) all.made (unlinked t.n at count links)
            (omega (arith, few_modules b f.passed)) (omega (arith, nexts_long, f.modules)) firsts_long));
      }

  -- ---- what they leave

  cleared : Cleared b at (chunk_list b) links (unlinked t.n at count links)
  unfolding unlinked
  cleared =
      record {
        nexts = ap (λ (k : ℕ). per_module k (λ m. 0) links.next_of) fits.tables.modules;
        firsts = ap (λ (k : ℕ). placed at (replicate k 0) links.first_of) all.chunks;
      }

  module _ (exit : Links) (work scratch : List ℕ) (same : length work ≡ length a.scratch)
      (done : Finished t.walking.order now.chunk_of on_entry t.n at count links exit work scratch) where
    chained : Linked b at (chunk_list b) links exit
    chained =
        let f = fits.tables in
        subst (λ (l : Links). Linked b at (chunk_list b) links l)
        (ap₂ (λ (k : ℕ) (l : List ℕ). linked now.chunk_of k at l (unlinked t.n at count links)) (sym f.entry) (sym fits.order)
        ∙ sym done.chains)
        (made_linked b at (work_of a) now all.made (passed_sound b f.passed) links (unlinked t.n at count links) (omega (arith, firsts_in)) cleared)

    pub run_ran : Ran b at count a (record {
      modules = record { chunk_of = now.chunk_of; next_of = exit.next_of };
      records =
          record {
            first_of = exit.first_of;
            group_of = now.group_of;
            name_of = now.name_of;
            size_of = now.size_of;
            bits_of = now.bits_of;
            mark_of = now.mark_of;
          };
      scratch = scratch;
    })
    unfolding written
    run_ran =
        let w = made_written b at (work_of a) now all.made links exit chained in
        let zeros : scratch ≡ replicate (length a.scratch) 0 = done.cleared ∙ ap (λ (k : ℕ). replicate k 0) same in
        record { chunks = all.chunks; areas = λ i. record { modules = w.0 i; records = w.1 i; scratch = zeros i } }
