mod WalkLemmas
