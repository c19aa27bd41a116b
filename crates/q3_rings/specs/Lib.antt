pub mod Rings
pub mod ByNumber
pub mod Accepted
pub mod Loans
pub mod KeptRings
pub mod Laws
