mod FateLemmas
mod LawLemmas
mod LinkLemmas
mod ListLemmas
mod MemberLemmas
