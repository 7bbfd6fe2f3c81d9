mod Prints
mod Judgements
mod Ends
mod Offers
